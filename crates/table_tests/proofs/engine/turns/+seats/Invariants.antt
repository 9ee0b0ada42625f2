use Rattle.std.proofs.Common.{◌+◌, ◌*◌}
use Rattle.table_tests.proofs.engine.turns.+seats.Given as goal

abbrev pub decreases-answer_seats : goal.decreases-answer_seats
decreases-answer_seats g l = 2 * l.others + 1

abbrev pub decreases-join_mut+arg3 : goal.decreases-join_mut+arg3
decreases-join_mut+arg3 g l = 2 * l.rest + 2
