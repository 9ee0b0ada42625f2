use Rattle.table_tests.specs.Fit.{IsFit}
use Rattle.table_tests.proofs.engine.requests.make_often.Given as goal

abbrev pub invariant-times : goal.invariant-times
invariant-times g l = IsFit l.table l.seat
