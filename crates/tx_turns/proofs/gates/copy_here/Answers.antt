use Rattle.std.proofs.Common.{[], length, subst, sym}
use Rattle.replay_log.specs.declared.base.Base.{Base}
use Rattle.tx_actor.specs.declared.actor.ActorNotice.TheVariants.{Quiet}
use Rattle.actor_parts.specs.Blocks.{BlocksView}
use Rattle.tx_actor.proofs.NameLemmas.{named_copy}
use Rattle.tx_actor.specs.Copying.{CanCopyAt, HasTakenAt, StepsOnAt}
use Rattle.tx_actor.specs.ActorBounds.{IsRunning}
use Rattle.shared_table.specs.Seated.{blocks_in}
use Rattle.tx_turns.proofs.LoneRequestLemmas.{starved}
use Rattle.tx_turns.proofs.TurnLemmas.{laid_as}
use Rattle.tx_turns.proofs.CopyLemmas.{copy_can, copy_first, copy_reads, copy_tied}
use Rattle.tx_turns.proofs.EventLemmas.{starve_own}
use Rattle.tx_turns.proofs.GateLemmas.{copy_due, first_here, first_out, front_same, held_base, may_put, some_held}
use Rattle.tx_turns.proofs.gates.copy_here.Goals as goal

pub copy_at_gate-requires : goal.copy_at_gate-requires
copy_at_gate-requires g c =
    let t = c.args.table.now in
    let s = c.args.seat.now in
    let r = c.args.actor.now in
    let k = c.args.k in
    let bs = c.args.bases.now.items in
    let laid = laid_as t c.blocks-2.result.now c.blocks-2.ensures.words c.blocks-2.ensures.blocks in
    let front = first_here bs c.front.result.now
    (some_held t s r k [] bs (copy_first r.stage k c.requires.due) c.requires.own) c.front.ensures in
    subst (λ (v : BlocksView). CanCopyAt v r c.front.result.now r.stage) (sym laid)
    (copy_can c.excerpts_as_worlds.ensures c.copies_go_on.ensures c.sizes_copies.ensures.sizes c.copies_stay_own.ensures.blocks
    c.copies_by_stage.ensures.others t s r k bs front.0 c.front.result.now c.requires.due c.requires.ties c.requires.own front.1)

pub front-requires : goal.front-requires
front-requires g c =
    some_held c.args.table.now c.args.seat.now c.args.actor.now c.args.k [] c.args.bases.now.items
    (copy_first c.args.actor.now.stage c.args.k c.requires.due) c.requires.own

pub first-base-requires : goal.first-base-requires
first-base-requires g c =
    some_held c.args.table.now c.args.seat.now c.args.actor.now c.args.k [] c.args.bases.now.items
    (copy_first c.args.actor.now.stage c.args.k c.requires.due) c.requires.own

pub put_gate-requires-clause-own : goal.put_gate-requires-clause-own
put_gate-requires-clause-own g c = c.requires.ties.owns

pub put_gate-requires-clause-live : goal.put_gate-requires-clause-live
put_gate-requires-clause-live g c = c.requires.ties.live

pub put_gate-requires-clause-collection : goal.put_gate-requires-clause-collection
put_gate-requires-clause-collection g c =
    named_copy c.args.actor.now.stage c.args.k (length (blocks_in c.args.table.now)) c.requires.due c.requires.ties.running.names

pub put_gate-requires-clause-held : goal.put_gate-requires-clause-held
put_gate-requires-clause-held g c =
    let r = c.args.actor.now in
    (first_out c.args.seat.now r c.args.k [] c.requires.own.out (copy_first r.stage c.args.k c.requires.due)).0

pub put_gate-requires-clause-due : goal.put_gate-requires-clause-due
put_gate-requires-clause-due g c =
    let t = c.args.table.now in
    let s = c.args.seat.now in
    let r = c.args.actor.now in
    may_put t s r c.args.k c.first-base.result c.requires.ties
    (copy_due c.steps_as_worlds.ensures t s r c.args.k c.requires.due c.requires.ties)
    (held_base t s r c.args.k [] c.args.bases.now.items c.first-base.new.bases.items c.first-base.result
    (copy_first r.stage c.args.k c.requires.due) c.requires.own c.first-base.ensures).0

pub returns-in-Ok-clause-turned : goal.returns-in-Ok-clause-turned
returns-in-Ok-clause-turned g c =
    let t = c.args.table.now in
    let s = c.args.seat.now in
    let r = c.args.actor.now in
    let k = c.args.k in
    let bs = c.args.bases.now.items in
    let laid = laid_as t c.blocks-2.result.now c.blocks-2.ensures.words c.blocks-2.ensures.blocks in
    let q = c.copy_at_gate.new.self in
    let b = c.first-base.result in
    let front = first_here bs c.front.result.now
    (some_held t s r k [] bs (copy_first r.stage k c.requires.due) c.requires.own) c.front.ensures in
    let same = front_same bs c.front.result.now b front.0 c.first-base.new.bases.items front.1 c.first-base.ensures in
    let running = subst (λ (v : BlocksView). IsRunning v r → IsRunning v q) laid
    (c.in-Ok.ensures.keeps (copy_reads c.copies_go_on.ensures t s r k c.requires.due c.requires.ties)).running c.requires.ties.running in
    (copy_tied c.steps_as_worlds.ensures c.taken_parts_are_own.ensures c.excerpts_as_worlds.ensures c.copies_go_on.ensures
    c.sizes_copies.ensures.sizes c.copies_stay_own.ensures.blocks c.copies_by_stage.ensures.others t s c.put_gate.new.seat r q
    c.in-Ok.told k bs
    c.first-base.new.bases.items b c.requires.due c.requires.ties c.requires.own c.first-base.ensures c.put_gate.ensures
    (subst (λ (z : BlocksView × Base g.row.V.Denot). StepsOnAt z.0 r q c.in-Ok.told z.1 r.stage) (λ i. (laid i, same i)) c.in-Ok.ensures.ok)
    (subst (λ (z : BlocksView × Base g.row.V.Denot). HasTakenAt z.0 r q c.in-Ok.told z.1 r.stage)
    (λ i. (laid i, same i)) c.in-Ok.ensures.copies) running).1

pub returns-in-Ok-clause-ties : goal.returns-in-Ok-clause-ties
returns-in-Ok-clause-ties g c =
    let t = c.args.table.now in
    let s = c.args.seat.now in
    let r = c.args.actor.now in
    let k = c.args.k in
    let bs = c.args.bases.now.items in
    let laid = laid_as t c.blocks-2.result.now c.blocks-2.ensures.words c.blocks-2.ensures.blocks in
    let q = c.copy_at_gate.new.self in
    let b = c.first-base.result in
    let front = first_here bs c.front.result.now
    (some_held t s r k [] bs (copy_first r.stage k c.requires.due) c.requires.own) c.front.ensures in
    let same = front_same bs c.front.result.now b front.0 c.first-base.new.bases.items front.1 c.first-base.ensures in
    let running = subst (λ (v : BlocksView). IsRunning v r → IsRunning v q) laid
    (c.in-Ok.ensures.keeps (copy_reads c.copies_go_on.ensures t s r k c.requires.due c.requires.ties)).running c.requires.ties.running in
    (copy_tied c.steps_as_worlds.ensures c.taken_parts_are_own.ensures c.excerpts_as_worlds.ensures c.copies_go_on.ensures
    c.sizes_copies.ensures.sizes c.copies_stay_own.ensures.blocks c.copies_by_stage.ensures.others t s c.put_gate.new.seat r q
    c.in-Ok.told k bs
    c.first-base.new.bases.items b c.requires.due c.requires.ties c.requires.own c.first-base.ensures c.put_gate.ensures
    (subst (λ (z : BlocksView × Base g.row.V.Denot). StepsOnAt z.0 r q c.in-Ok.told z.1 r.stage) (λ i. (laid i, same i)) c.in-Ok.ensures.ok)
    (subst (λ (z : BlocksView × Base g.row.V.Denot). HasTakenAt z.0 r q c.in-Ok.told z.1 r.stage)
    (λ i. (laid i, same i)) c.in-Ok.ensures.copies) running).0

pub returns-in-Ok-clause-own : goal.returns-in-Ok-clause-own
returns-in-Ok-clause-own g c =
    let t = c.args.table.now in
    let s = c.args.seat.now in
    let r = c.args.actor.now in
    let k = c.args.k in
    let bs = c.args.bases.now.items in
    let laid = laid_as t c.blocks-2.result.now c.blocks-2.ensures.words c.blocks-2.ensures.blocks in
    let q = c.copy_at_gate.new.self in
    let b = c.first-base.result in
    let front = first_here bs c.front.result.now
    (some_held t s r k [] bs (copy_first r.stage k c.requires.due) c.requires.own) c.front.ensures in
    let same = front_same bs c.front.result.now b front.0 c.first-base.new.bases.items front.1 c.first-base.ensures in
    let running = subst (λ (v : BlocksView). IsRunning v r → IsRunning v q) laid
    (c.in-Ok.ensures.keeps (copy_reads c.copies_go_on.ensures t s r k c.requires.due c.requires.ties)).running c.requires.ties.running in
    (copy_tied c.steps_as_worlds.ensures c.taken_parts_are_own.ensures c.excerpts_as_worlds.ensures c.copies_go_on.ensures
    c.sizes_copies.ensures.sizes c.copies_stay_own.ensures.blocks c.copies_by_stage.ensures.others t s c.put_gate.new.seat r q
    c.in-Ok.told k bs
    c.first-base.new.bases.items b c.requires.due c.requires.ties c.requires.own c.first-base.ensures c.put_gate.ensures
    (subst (λ (z : BlocksView × Base g.row.V.Denot). StepsOnAt z.0 r q c.in-Ok.told z.1 r.stage) (λ i. (laid i, same i)) c.in-Ok.ensures.ok)
    (subst (λ (z : BlocksView × Base g.row.V.Denot). HasTakenAt z.0 r q c.in-Ok.told z.1 r.stage)
    (λ i. (laid i, same i)) c.in-Ok.ensures.copies) running).2

pub returns-in-Err-clause-ties : goal.returns-in-Err-clause-ties
returns-in-Err-clause-ties g c =
    let t = c.args.table.now in
    let s = c.args.seat.now in
    let r = c.args.actor.now in
    let k = c.args.k in
    let bs = c.args.bases.now.items in
    let laid = laid_as t c.blocks-2.result.now c.blocks-2.ensures.words c.blocks-2.ensures.blocks in
    let q = c.copy_at_gate.new.self in
    let running = subst (λ (v : BlocksView). IsRunning v r → IsRunning v q) laid
    (c.in-Err.ensures.keeps (copy_reads c.copies_go_on.ensures t s r k c.requires.due c.requires.ties)).running c.requires.ties.running in
    let done = starved t s c.refuse.new.seat r q Quiet c.requires.ties c.refuse.ensures running
    c.in-Err.ensures.err in
    done.0

pub returns-in-Err-clause-starved : goal.returns-in-Err-clause-starved
returns-in-Err-clause-starved g c =
    let t = c.args.table.now in
    let s = c.args.seat.now in
    let r = c.args.actor.now in
    let k = c.args.k in
    let bs = c.args.bases.now.items in
    let laid = laid_as t c.blocks-2.result.now c.blocks-2.ensures.words c.blocks-2.ensures.blocks in
    let q = c.copy_at_gate.new.self in
    let running = subst (λ (v : BlocksView). IsRunning v r → IsRunning v q) laid
    (c.in-Err.ensures.keeps (copy_reads c.copies_go_on.ensures t s r k c.requires.due c.requires.ties)).running c.requires.ties.running in
    let done = starved t s c.refuse.new.seat r q Quiet c.requires.ties c.refuse.ensures running
    c.in-Err.ensures.err in
    done.1

pub returns-in-Err-clause-own : goal.returns-in-Err-clause-own
returns-in-Err-clause-own g c =
    let t = c.args.table.now in
    let s = c.args.seat.now in
    let r = c.args.actor.now in
    let k = c.args.k in
    let bs = c.args.bases.now.items in
    let laid = laid_as t c.blocks-2.result.now c.blocks-2.ensures.words c.blocks-2.ensures.blocks in
    let q = c.copy_at_gate.new.self in
    let running = subst (λ (v : BlocksView). IsRunning v r → IsRunning v q) laid
    (c.in-Err.ensures.keeps (copy_reads c.copies_go_on.ensures t s r k c.requires.due c.requires.ties)).running c.requires.ties.running in
    let done = starved t s c.refuse.new.seat r q Quiet c.requires.ties c.refuse.ensures running
    c.in-Err.ensures.err in
    starve_own c.events_keep_copies.ensures.starves c.copies_by_stage.ensures.others t s c.refuse.new.seat r q Quiet bs
    c.requires.ties c.requires.own done.1
    done.0 c.in-Err.ensures.leaves
