use Rattle.interleavings.specs.Explorations.{outcome_text}
use Rattle.interleavings.proofs.PrintLemmas.{printed_on}
use Rattle.interleavings.proofs.print.print_outcomes.Goals as goal

pub loop-outcome-preserved : goal.loop-outcome-preserved
loop-outcome-preserved c =
    printed_on outcome_text c.args.outcomes.now c.loop-outcome.outcome-index c.outcome-item.result _ _ _ c.loop-outcome-test.true
    c.outcome-item.is c.loop-outcome.invariant c.in_ok-print_outcome.ensures
