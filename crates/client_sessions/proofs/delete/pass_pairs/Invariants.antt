use Rattle.std.proofs.Common.{◌-◌}
use Rattle.client_sessions.specs.Noted.{ArePassed}
use Rattle.client_sessions.proofs.delete.pass_pairs.Given as goal

abbrev pub invariant-pairs : goal.invariant-pairs
invariant-pairs l = ArePassed l.who l.replies l.passed

abbrev pub decreases-pairs : goal.decreases-pairs
decreases-pairs l = l.count - l.passed
