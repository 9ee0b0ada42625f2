use Rattle.table_tests.specs.Fit.{IsFit}
use Rattle.table_tests.proofs.engine.requests.make_each.Given as goal

abbrev pub invariant-calls : goal.invariant-calls
invariant-calls g l = IsFit l.table l.seat
