use Rattle.std.proofs.Common.{◌≡◌, ℕ, [], ◌∷◌, Option, IfOk, OnErr, List, refl, sym, ap, subst, length}
use Rattle.replay_log.specs.declared.base.Base.{Base}
use Rattle.actor_parts.specs.Blocks.{BlocksView}
use Rattle.actor_parts.specs.declared.next.Next.TheVariants as next
use Rattle.tx_actor.specs.Copying.{CanCopy}
use Rattle.tx_actor.specs.ActorBounds.{IsRunning}
use Rattle.tx_actor.specs.declared.actor.ActorNotice.TheVariants.{Quiet}
use Rattle.tx_actor.specs.declared.actor.TxActor.{TxActor}
use Rattle.tx_actor.specs.Running.{at}
use Rattle.tx_actor.specs.Taking.{AreTakenFor}
use Rattle.tx_actor.specs.declared.actor.CollectionCall.{CollectionCall}
use Rattle.tx_actor.specs.declared.actor.Stage.TheVariants as stage
use Rattle.tx_actor.specs.declared.taking.KeyedCall.{KeyedCall}
use Rattle.tx_actor.proofs.NameLemmas.{named_copy}
use Rattle.shared_table.specs.Seated.{blocks_in}
use Rattle.shared_table.specs.declared.seat.Seat.{Seat}
use Rattle.tx_turns.proofs.GateLemmas.{copy_due, first_out, held_base, may_put}
use Rattle.tx_turns.proofs.TurnLemmas.{laid_as}
use Rattle.tx_turns.proofs.LoneRequestLemmas.{starved}
use Rattle.tx_turns.specs.Straight.{HasDriven, HasStopped}
use Rattle.tx_turns.proofs.KeyLemmas.{if_ok, in_hand, key_put, may_take, on_err, put_then, take_starved}
use Rattle.tx_turns.proofs.keys.take_key.Goals as goal

pub takes_call-requires : goal.takes_call-requires
takes_call-requires g c =
    let t = c.args.table.now in
    let s = c.args.seat.now in
    let p = c.args.actor.now in
    let asked = c.args.asked in
    let b = c.args.base in
    let v = c.blocks-2.result.now in
    let laid = laid_as t v c.blocks-2.ensures.words c.blocks-2.ensures.blocks in
    let can = may_take (record {
      steps = c.steps_as_worlds.ensures;
      taken = c.excerpts_as_worlds.ensures;
      on = c.copies_go_on.ensures;
      sized = c.sizes_copies.ensures.sizes;
      of = c.copies_stay_own.ensures.blocks;
      others = c.copies_by_stage.ensures.others;
    }) t s p asked b c.requires.ties c.requires.own in
    subst (λ (z : BlocksView × Base g.row.V.Denot). CanCopy z.0 p z.1 asked) (λ i. (sym laid i, sym c.get-shown.ensures i)) can

pub put_gate-requires-clause-own : goal.put_gate-requires-clause-own
put_gate-requires-clause-own g c = c.requires.ties.owns

pub put_gate-requires-clause-live : goal.put_gate-requires-clause-live
put_gate-requires-clause-live g c = c.requires.ties.live

pub put_gate-requires-clause-collection : goal.put_gate-requires-clause-collection
put_gate-requires-clause-collection g c =
    let t = c.args.table.now in
    let p = c.args.actor.now in
    let asked = c.args.asked in
    let r = at p (stage.Copying asked) in
    let k = c.get.result.now.collection in
    let same : k ≡ asked.collection = ap (λ (a : CollectionCall g.row.V.Denot). a.collection) c.get.ensures in
    let due = ap (λ (j : ℕ). next.Copy j) (sym same) in
    named_copy r.stage k (length (blocks_in t)) due c.requires.ties.running.names

pub put_gate-requires-clause-held : goal.put_gate-requires-clause-held
put_gate-requires-clause-held g c =
    let s = c.args.seat.now in
    let p = c.args.actor.now in
    let asked = c.args.asked in
    let r = at p (stage.Copying asked) in
    let k = c.get.result.now.collection in
    let same : k ≡ asked.collection = ap (λ (a : CollectionCall g.row.V.Denot). a.collection) c.get.ensures in
    (first_out s r k [] c.requires.own.out (ap (λ (j : ℕ). j ∷ []) (sym same))).0

pub put_gate-requires-clause-due : goal.put_gate-requires-clause-due
put_gate-requires-clause-due g c =
    let t = c.args.table.now in
    let s = c.args.seat.now in
    let p = c.args.actor.now in
    let asked = c.args.asked in
    let b = c.args.base in
    let r = at p (stage.Copying asked) in
    let k = c.get.result.now.collection in
    let same : k ≡ asked.collection = ap (λ (a : CollectionCall g.row.V.Denot). a.collection) c.get.ensures in
    let due = ap (λ (j : ℕ). next.Copy j) (sym same) in
    may_put t s r k b c.requires.ties (copy_due c.steps_as_worlds.ensures t s r k due c.requires.ties)
    (held_base t s r k [] (b ∷ []) [] b (ap (λ (j : ℕ). j ∷ []) (sym same)) c.requires.own refl).0

pub go_key-requires-clause-put : goal.go_key-requires-clause-put
go_key-requires-clause-put g c =
    let t = c.args.table.now in
    let s = c.args.seat.now in
    let p = c.args.actor.now in
    let asked = c.args.asked in
    let b = c.args.base in
    let v = c.blocks-2.result.now in
    let laid = laid_as t v c.blocks-2.ensures.words c.blocks-2.ensures.blocks in
    let can = may_take (record {
      steps = c.steps_as_worlds.ensures;
      taken = c.excerpts_as_worlds.ensures;
      on = c.copies_go_on.ensures;
      sized = c.sizes_copies.ensures.sizes;
      of = c.copies_stay_own.ensures.blocks;
      others = c.copies_by_stage.ensures.others;
    }) t s p asked b c.requires.ties c.requires.own in
    key_put t s c.put_gate.new.seat p c.takes_call.new.self asked b c.get-shown.result.now c.in-Ok-Some.taken v laid
    c.get-shown.ensures c.requires.idle c.requires.ties c.requires.own c.put_gate.ensures can
    (subst (λ (o : Option (KeyedCall g.row.V.Denot)). AreTakenFor v p c.takes_call.new.self c.get-shown.result.now asked o)
    c.in-Ok-Some.field-0-is c.in-Ok-Some.ensures.ok)

pub returns-in-Ok-Some-clause-led : goal.returns-in-Ok-Some-clause-led
returns-in-Ok-Some-clause-led g c =
    let t = c.args.table.now in
    let s = c.args.seat.now in
    let p = c.args.actor.now in
    let asked = c.args.asked in
    let b = c.args.base in
    let v = c.blocks-2.result.now in
    let laid = laid_as t v c.blocks-2.ensures.words c.blocks-2.ensures.blocks in
    let can = may_take (record {
      steps = c.steps_as_worlds.ensures;
      taken = c.excerpts_as_worlds.ensures;
      on = c.copies_go_on.ensures;
      sized = c.sizes_copies.ensures.sizes;
      of = c.copies_stay_own.ensures.blocks;
      others = c.copies_by_stage.ensures.others;
    }) t s p asked b c.requires.ties c.requires.own in
    let put = put_then t s c.put_gate.new.seat p c.takes_call.new.self asked b c.get-shown.result.now c.in-Ok-Some.taken v laid
    c.get-shown.ensures c.requires.idle c.requires.ties c.requires.own c.put_gate.ensures can
    (subst (λ (o : Option (KeyedCall g.row.V.Denot)). AreTakenFor v p c.takes_call.new.self c.get-shown.result.now asked o)
    c.in-Ok-Some.field-0-is c.in-Ok-Some.ensures.ok) in
    let m = c.go_key.new.seat in
    let q = c.go_key.new.actor in
    subst (λ (bs : List (Base g.row.V.Denot)). IfOk c.go_key.result (λ n. HasDriven t s m q n bs)) (sym c.requires.none)
    (if_ok c.go_key.result (λ n. put (λ (z : Seat g.row.V.Denot). HasDriven t z m q n [])) c.go_key.ensures.led)

pub returns-in-Ok-Some-clause-stopped : goal.returns-in-Ok-Some-clause-stopped
returns-in-Ok-Some-clause-stopped g c =
    let t = c.args.table.now in
    let s = c.args.seat.now in
    let p = c.args.actor.now in
    let asked = c.args.asked in
    let b = c.args.base in
    let v = c.blocks-2.result.now in
    let laid = laid_as t v c.blocks-2.ensures.words c.blocks-2.ensures.blocks in
    let can = may_take (record {
      steps = c.steps_as_worlds.ensures;
      taken = c.excerpts_as_worlds.ensures;
      on = c.copies_go_on.ensures;
      sized = c.sizes_copies.ensures.sizes;
      of = c.copies_stay_own.ensures.blocks;
      others = c.copies_by_stage.ensures.others;
    }) t s p asked b c.requires.ties c.requires.own in
    let put = put_then t s c.put_gate.new.seat p c.takes_call.new.self asked b c.get-shown.result.now c.in-Ok-Some.taken v laid
    c.get-shown.ensures c.requires.idle c.requires.ties c.requires.own c.put_gate.ensures can
    (subst (λ (o : Option (KeyedCall g.row.V.Denot)). AreTakenFor v p c.takes_call.new.self c.get-shown.result.now asked o)
    c.in-Ok-Some.field-0-is c.in-Ok-Some.ensures.ok) in
    let m = c.go_key.new.seat in
    let q = c.go_key.new.actor in
    subst (λ (bs : List (Base g.row.V.Denot)). OnErr c.go_key.result (HasStopped t s m q bs)) (sym c.requires.none)
    (on_err c.go_key.result (put (λ (z : Seat g.row.V.Denot). HasStopped t z m q [])) c.go_key.ensures.stopped)

pub returns-in-Ok-None-clause-led : goal.returns-in-Ok-None-clause-led
returns-in-Ok-None-clause-led g c =
    let t = c.args.table.now in
    let s = c.args.seat.now in
    let p = c.args.actor.now in
    let asked = c.args.asked in
    let b = c.args.base in
    let v = c.blocks-2.result.now in
    let hand = in_hand c.args.bases.now.items c.push_reserved.new.self.items b c.push_reserved.ensures.items c.requires.none in
    let at_it = subst (λ (o : Option (KeyedCall g.row.V.Denot)). AreTakenFor v p c.takes_call.new.self c.get-shown.result.now asked o)
    c.in-Ok-None.field-0-is c.in-Ok-None.ensures.ok in
    subst (λ (z : TxActor g.row.V.Denot × List (Base g.row.V.Denot)). HasDriven t s s z.0 Quiet z.1) (λ i. (sym at_it i, hand i))
    (record { ties = c.requires.ties; own = c.requires.own; leads = λ d f h. h })

pub returns-in-Err-clause-stopped : goal.returns-in-Err-clause-stopped
returns-in-Err-clause-stopped g c =
    let t = c.args.table.now in
    let s = c.args.seat.now in
    let p = c.args.actor.now in
    let asked = c.args.asked in
    let b = c.args.base in
    let r = at p (stage.Copying asked) in
    let v = c.blocks-2.result.now in
    let laid = laid_as t v c.blocks-2.ensures.words c.blocks-2.ensures.blocks in
    let q = c.takes_call.new.self in
    let cs = c.push_reserved-in-Err.new.self.items in
    let hand = in_hand c.args.bases.now.items cs b c.push_reserved-in-Err.ensures.items c.requires.none in
    let running = subst (λ (z : BlocksView). IsRunning z r → IsRunning z q) laid c.in-Err.ensures.keeps.running c.requires.ties.running in
    take_starved c.events_keep_copies.ensures.starves c.copies_by_stage.ensures.others t s c.refuse.new.seat p q asked b cs hand
    c.requires.ties c.requires.own
    (starved t s c.refuse.new.seat r q Quiet c.requires.ties c.refuse.ensures running c.in-Err.ensures.err) c.in-Err.ensures.leaves
