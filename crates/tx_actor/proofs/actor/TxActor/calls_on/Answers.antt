use Rattle.tx_actor.proofs.ShadowAfterRequestLemmas.{on_err}
use Rattle.std.proofs.Common.{◌≡◌, Option, ℕ, false, refl, sym, subst}
use Rattle.tx_actor.specs.Calls.{AsksOwn}
use Rattle.tx_actor.specs.ActorBounds.{KeepsIn}
use Rattle.replay_log.specs.Worlds.{calls_on}
use Rattle.actor_parts.specs.CopyInWorld.{call_on}
use Rattle.tx_actor.specs.Running.{seat_of}
use Rattle.tx_actor.specs.declared.actor.ActorNotice.TheVariants.{Quiet}
use Rattle.tx_actor.proofs.PreparesLemmas.{alike_itself}
use Rattle.tx_actor.proofs.RoomLemmas.{alike_in}
use Rattle.tx_actor.specs.Prepares.{IsHeldPosition}
use Rattle.tx_actor.proofs.CallsLemmas.{gate_is_tried}
use Rattle.replay_log.specs.Contents.{end_of}
use Rattle.actor_parts.specs.PrivateCopy.{holds_of}
use Rattle.actor_parts.specs.CopyList.{copy_of}
use Rattle.tx_actor.specs.declared.actor.CollectionCall.{CollectionCall}
use Rattle.tx_actor.specs.declared.actor.Stage.TheVariants as stage
use Rattle.tx_actor.proofs.ActorBoundsLemmas.{keeps_asked, words_same}
use Rattle.tx_actor.proofs.actor.TxActor.calls_on.Goals as goal

pub returns-in_ok-asked-in-None-clause-ok : goal.returns-in_ok-asked-in-None-clause-ok
returns-in_ok-asked-in-None-clause-ok g c =
    let v = c.args.blocks.now in
    let r = c.args.self.now in
    subst
    (λ (k : CollectionCall g.row.V.Denot). AsksOwn v r (record r { stage = stage.Trying k 63 }) Quiet
    (λ a w. calls_on w a (seat_of r) (call_on c.args.collection c.args.op))) (sym c.in_ok-asked-in-None.ensures)
    (gate_is_tried v r c.args.collection c.args.op c.requires.known
    (subst (λ (o : Option ℕ). IsHeldPosition r.copies.items c.args.collection c.args.op o) c.in-None.is
    (subst (λ cs. IsHeldPosition cs c.args.collection c.args.op c.held_position.result) c.deref.ensures.value c.held_position.ensures)))

pub returns-in_ok-asked-in-None-clause-keeps : goal.returns-in_ok-asked-in-None-clause-keeps
returns-in_ok-asked-in-None-clause-keeps g c noreads =
    let v = c.args.blocks.now in
    let r = c.args.self.now in
    let asked : CollectionCall g.row.V.Denot = record { collection = c.args.collection; op = c.args.op } in
    let none : holds_of (copy_of r.copies.items c.args.collection) c.args.op ≡ false =
    subst (λ (o : Option ℕ). IsHeldPosition r.copies.items c.args.collection c.args.op o) c.in-None.is
    (subst (λ cs. IsHeldPosition cs c.args.collection c.args.op c.held_position.result) c.deref.ensures.value c.held_position.ensures) in
    subst (λ (k : CollectionCall g.row.V.Denot). KeepsIn v r (record r { stage = stage.Trying k 63 })) (sym c.in_ok-asked-in-None.ensures)
    (keeps_asked v r (record r { stage = stage.Trying asked 63 }) (words_same (end_of v.words v.blocks) r.words) (λ i. none)
    (λ i. c.requires.there) refl)

pub returns-in_ok-asked-in-None-clause-still : goal.returns-in_ok-asked-in-None-clause-still
returns-in_ok-asked-in-None-clause-still g c w a k is = is

pub returns-in_err-asked-in-None-clause-err : goal.returns-in_err-asked-in-None-clause-err
returns-in_err-asked-in-None-clause-err g c =
    on_err c.from_residual-in_err-asked-in-None.result (alike_itself c.args.self.now)

pub returns-in_err-asked-in-None-clause-keeps : goal.returns-in_err-asked-in-None-clause-keeps
returns-in_err-asked-in-None-clause-keeps g c noreads =
    alike_in c.args.blocks.now c.args.self.now c.args.self.now c.requires.can.stage c.requires.can.rests (alike_itself c.args.self.now)

pub returns-in_err-asked-in-None-clause-still : goal.returns-in_err-asked-in-None-clause-still
returns-in_err-asked-in-None-clause-still g c w a k is = is
