use Rattle.table_tests.specs.Fit.{IsFit}
use Rattle.table_tests.proofs.engine.turns.answer_seat.Given as goal

abbrev pub invariant-rows : goal.invariant-rows
invariant-rows g l = IsFit l.table l.seat
