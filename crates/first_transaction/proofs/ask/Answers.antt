use Rattle.first_transaction.specs.Opening.{two_ones}
use Rattle.first_transaction.proofs.ask.Goals as goal

pub loop-step-init : goal.loop-step-init
loop-step-init c = c.in_ok-notice.ensures.from two_ones

pub loop-step-preserved : goal.loop-step-preserved
loop-step-preserved c = λ h. c.in_ok-notice-2.ensures.from two_ones (c.loop-step.invariant h)
