use Rattle.std.proofs.Common.{◌∙◌, subst, refl, arith, below_more}
use Rattle.std.proofs.lemmas.List.{get_or_default}
use Rattle.seq_model.specs.Calls.{IsWithinLimits}
use Rattle.seq_model.proofs.state.are_within_limits.Goals as goal

pub loop-collection-preserved : goal.loop-collection-preserved
loop-collection-preserved g c =
    below_more _ _ c.loop-collection.invariant
    (λ d. subst IsWithinLimits (c.collection-item.is ∙ get_or_default c.args.held.now c.loop-collection.collection-index _ d
    c.loop-collection-test.true) (c.is_within_limits.ensures.0 c.if-not-is_within_limits.false))

pub returns : goal.returns
returns g c = (λ _ k d lt. c.loop-collection.invariant k (omega arith) d, λ _. refl)
