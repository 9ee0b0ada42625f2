use Rattle.std.proofs.Common.{◌∙◌}
use Rattle.vacation_core.proofs.OrderLemmas.{receipts}
use Rattle.vacation_core.proofs.order.finish.Goals as goal

pub returns : goal.returns
returns c = λ tables n last done x.
    receipts c.args.world.parts c.in_ok-trace.trace c.from_vec.result tables n last done c.in_ok-trace.ensures.trace
    c.in_ok-trace.ensures.serial (c.from_vec.ensures ∙ c.in_ok-receipts.ensures) x
