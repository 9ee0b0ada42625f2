use Rattle.std.proofs.Common.{length}
use Rattle.vacation_core.proofs.EventListLemmas.{AllowsSo}
use Rattle.vacation_core.proofs.run.are_allowed.Given as goal

abbrev pub decreases-loop-event : goal.decreases-loop-event
decreases-loop-event l = length l.left

abbrev pub invariant-loop-event : goal.invariant-loop-event
invariant-loop-event l = AllowsSo l.fn.events l.left
