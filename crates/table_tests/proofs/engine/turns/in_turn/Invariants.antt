use Rattle.table_tests.specs.Fit.{IsFit}
use Rattle.table_tests.proofs.engine.turns.in_turn.Given as goal

abbrev pub invariant-rows : goal.invariant-rows
invariant-rows g l = IsFit l.table l.first × IsFit l.table l.second
