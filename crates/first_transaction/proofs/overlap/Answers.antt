use Rattle.first_transaction.specs.Opening.{two_ones}
use Rattle.first_transaction.proofs.overlap.Goals as goal

pub returns : goal.returns
returns c = record { serial = c.in_ok-trace.ensures.serial two_ones (c.in_ok-first.ensures c.in_ok-world.ensures) }
