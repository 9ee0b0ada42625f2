use Rattle.std.proofs.Common.{sym, ◌∙◌, ◌≡◌, false, subst}
use Rattle.tx_actor.specs.Running.{at, seat_of, stage_of}
use Rattle.actor_parts.specs.Dispatch.{after_try, is_loading}
use Rattle.tx_actor.specs.declared.actor.Stage.TheVariants as stage
use Rattle.tx_actor.proofs.DispatchLemmas.{does_at_stage, does_stays, try_else}
use Rattle.tx_actor.proofs.ActorBoundsLemmas.{keeps_at, keeps_same}
use Rattle.tx_actor.proofs.CopiesByStageLemmas.{copies_at, copies_same}
use Rattle.tx_actor.specs.declared.actor.Stage.{Stage}
use Rattle.tx_actor.proofs.actor.TxActor.tried_else.Goals as goal

pub returns-in-Trying-clause-does : goal.returns-in-Trying-clause-does
returns-in-Trying-clause-does g c =
    does_at_stage (λ w a x s. after_try w a x s c.args.free) c.args.self.now c.tried_call.new.self c.tried_call.result
    (stage.Trying c.in-Trying.asked c.in-Trying.tries)
    (sym c.replace-stage.ensures.value ∙ c.in-Trying.is) c.tried_call.ensures.does

pub returns-in-Gating-clause-does : goal.returns-in-Gating-clause-does
returns-in-Gating-clause-does g c =
    does_at_stage (λ w a x s. after_try w a x s c.args.free) c.args.self.now c.tried_next.new.self c.tried_next.result
    (stage.Gating c.in-Gating.homes c.in-Gating.got c.in-Gating.tries) (sym c.replace-stage.ensures.value ∙ c.in-Gating.is)
    c.tried_next.ensures.does

pub returns-in_default-clause-does : goal.returns-in_default-clause-does
returns-in_default-clause-does g c =
    let other = c.replace-stage.result in
    does_at_stage (λ w a x s. after_try w a x s c.args.free) c.args.self.now c.unchanged.new.self c.unchanged.result other (sym
    c.replace-stage.ensures.value)
    (does_stays (λ w a x s. after_try w a x s c.args.free) (at c.args.self.now other) c.unchanged.new.self c.unchanged.result
    c.unchanged.ensures.stage c.unchanged.ensures.told
    (λ a w. try_else w a (seat_of (at c.args.self.now other)) other c.args.free c.in_default.not-Trying c.in_default.not-Gating))

pub returns-in-Trying-clause-keeps : goal.returns-in-Trying-clause-keeps
returns-in-Trying-clause-keeps g c v =
    keeps_at v c.args.self.now c.tried_call.new.self (stage.Trying c.in-Trying.asked c.in-Trying.tries) (sym
    c.replace-stage.ensures.value ∙ c.in-Trying.is)
    (c.tried_call.ensures.keeps v)

pub returns-in-Gating-clause-keeps : goal.returns-in-Gating-clause-keeps
returns-in-Gating-clause-keeps g c v =
    keeps_at v c.args.self.now c.tried_next.new.self (stage.Gating c.in-Gating.homes c.in-Gating.got c.in-Gating.tries) (sym
    c.replace-stage.ensures.value ∙ c.in-Gating.is)
    (c.tried_next.ensures.keeps v)

pub returns-in_default-clause-keeps : goal.returns-in_default-clause-keeps
returns-in_default-clause-keeps g c v =
    keeps_at v c.args.self.now c.unchanged.new.self c.replace-stage.result (sym c.replace-stage.ensures.value)
    (keeps_same v (at c.args.self.now c.replace-stage.result) c.unchanged.new.self c.unchanged.ensures.stage)

pub returns-in-Trying-clause-leaves : goal.returns-in-Trying-clause-leaves
returns-in-Trying-clause-leaves g c quiet =
    copies_at c.args.self.now c.tried_call.new.self (stage.Trying c.in-Trying.asked c.in-Trying.tries) (sym c.replace-stage.ensures.value
    ∙ c.in-Trying.is)
    c.tried_call.ensures.leaves

pub returns-in-Gating-clause-leaves : goal.returns-in-Gating-clause-leaves
returns-in-Gating-clause-leaves g c quiet =
    copies_at c.args.self.now c.tried_next.new.self (stage.Gating c.in-Gating.homes c.in-Gating.got c.in-Gating.tries)
    (sym c.replace-stage.ensures.value ∙ c.in-Gating.is)
    c.tried_next.ensures.leaves

pub returns-in_default-clause-leaves : goal.returns-in_default-clause-leaves
returns-in_default-clause-leaves g c quiet =
    copies_at c.args.self.now c.unchanged.new.self c.replace-stage.result (sym c.replace-stage.ensures.value)
    (copies_same (at c.args.self.now c.replace-stage.result) c.unchanged.new.self
    (subst (λ (z : Stage g.row.V.Denot). is_loading (stage_of z) ≡ false) (sym c.replace-stage.ensures.value) quiet)
    c.unchanged.ensures.stage)
