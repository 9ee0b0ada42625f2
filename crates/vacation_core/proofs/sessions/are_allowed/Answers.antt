use Rattle.std.proofs.Common.{subst, refl, arith, below_more, ◌∙◌}
use Rattle.std.proofs.lemmas.List.{get_or_default}
use Rattle.vac_model.specs.Actions.{IsAllowed}
use Rattle.vacation_core.proofs.sessions.are_allowed.Goals as goal

pub loop-action-preserved : goal.loop-action-preserved
loop-action-preserved c =
    below_more _ _ c.loop-action.invariant
    (λ d. subst IsAllowed (c.action-item.is
    ∙ get_or_default c.args.actions.now c.loop-action.action-index c.action-item.result d c.loop-action-test.true)
    (c.is_allowed.ensures.0 c.if-not-is_allowed.false))

pub returns : goal.returns
returns c = (λ _ k d lt. c.loop-action.invariant k (omega arith) d, λ _. refl)
