use Rattle.std.proofs.Common.{sym, ◌∙◌, refl, ◌≡◌, false, subst}
use Rattle.tx_actor.specs.Running.{at, seat_of, stage_of}
use Rattle.actor_parts.specs.Dispatch.{after_put, is_loading}
use Rattle.tx_actor.specs.declared.actor.Stage.TheVariants as stage
use Rattle.tx_actor.proofs.DispatchLemmas.{does_at_stage, does_stays, put_else}
use Rattle.tx_actor.proofs.ActorBoundsLemmas.{keeps_at, keeps_from, keeps_same}
use Rattle.tx_actor.proofs.CopiesByStageLemmas.{copies_at, copies_idle, copies_same}
use Rattle.tx_actor.specs.declared.actor.Stage.{Stage}
use Rattle.tx_actor.proofs.actor.TxActor.on_gate_put.Goals as goal

pub returns-in-Returning-clause-does : goal.returns-in-Returning-clause-does
returns-in-Returning-clause-does g c =
    does_at_stage after_put c.args.self.now c.put_first.new.self c.put_first.result (stage.Returning c.in-Returning.homes) (sym
    c.replace-stage.ensures.value ∙ c.in-Returning.is)
    c.put_first.ensures.does

pub returns-in-ReturningOne-clause-does : goal.returns-in-ReturningOne-clause-does
returns-in-ReturningOne-clause-does g c =
    does_at_stage after_put c.args.self.now c.start_cancel.new.self c.start_cancel.result (stage.ReturningOne c.in-ReturningOne.field-0)
    (sym
    c.replace-stage.ensures.value ∙ c.in-ReturningOne.is)
    (λ a w s. c.start_cancel.ensures.does a w s.1)

pub returns-in_default-clause-does : goal.returns-in_default-clause-does
returns-in_default-clause-does g c =
    let other = c.replace-stage.result in
    does_at_stage after_put c.args.self.now c.unchanged.new.self c.unchanged.result other (sym c.replace-stage.ensures.value)
    (does_stays after_put (at c.args.self.now other) c.unchanged.new.self c.unchanged.result c.unchanged.ensures.stage
    c.unchanged.ensures.told
    (λ a w. put_else w a (seat_of (at c.args.self.now other)) other c.in_default.not-Returning c.in_default.not-ReturningOne))

pub returns-in-Returning-clause-keeps : goal.returns-in-Returning-clause-keeps
returns-in-Returning-clause-keeps g c v =
    keeps_at v c.args.self.now c.put_first.new.self (stage.Returning c.in-Returning.homes) (sym c.replace-stage.ensures.value ∙
    c.in-Returning.is)
    (c.put_first.ensures.keeps v)

pub returns-in-ReturningOne-clause-keeps : goal.returns-in-ReturningOne-clause-keeps
returns-in-ReturningOne-clause-keeps g c v =
    keeps_at v c.args.self.now c.start_cancel.new.self (stage.ReturningOne c.in-ReturningOne.field-0) (sym c.replace-stage.ensures.value ∙
    c.in-ReturningOne.is)
    (keeps_from v c.args.self.now c.args.self.now c.start_cancel.new.self (stage.ReturningOne c.in-ReturningOne.field-0) stage.Idle refl
    (c.start_cancel.ensures.keeps v) (λ n h. tt) (λ z. tt))

pub returns-in_default-clause-keeps : goal.returns-in_default-clause-keeps
returns-in_default-clause-keeps g c v =
    keeps_at v c.args.self.now c.unchanged.new.self c.replace-stage.result (sym c.replace-stage.ensures.value)
    (keeps_same v (at c.args.self.now c.replace-stage.result) c.unchanged.new.self c.unchanged.ensures.stage)

pub returns-in-Returning-clause-leaves : goal.returns-in-Returning-clause-leaves
returns-in-Returning-clause-leaves g c quiet =
    copies_at c.args.self.now c.put_first.new.self (stage.Returning c.in-Returning.homes) (sym c.replace-stage.ensures.value
    ∙ c.in-Returning.is)
    c.put_first.ensures.leaves

pub returns-in-ReturningOne-clause-leaves : goal.returns-in-ReturningOne-clause-leaves
returns-in-ReturningOne-clause-leaves g c quiet =
    copies_at c.args.self.now c.start_cancel.new.self (stage.ReturningOne c.in-ReturningOne.field-0) (sym c.replace-stage.ensures.value
    ∙ c.in-ReturningOne.is)
    (copies_idle (at c.args.self.now
    (stage.ReturningOne c.in-ReturningOne.field-0)) c.args.self.now c.start_cancel.new.self c.start_cancel.ensures.leaves)

pub returns-in_default-clause-leaves : goal.returns-in_default-clause-leaves
returns-in_default-clause-leaves g c quiet =
    copies_at c.args.self.now c.unchanged.new.self c.replace-stage.result (sym c.replace-stage.ensures.value)
    (copies_same (at c.args.self.now c.replace-stage.result) c.unchanged.new.self
    (subst (λ (z : Stage g.row.V.Denot). is_loading (stage_of z) ≡ false) (sym c.replace-stage.ensures.value) quiet)
    c.unchanged.ensures.stage)
