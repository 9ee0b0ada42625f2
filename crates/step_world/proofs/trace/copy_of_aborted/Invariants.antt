use Rattle.std.proofs.Common.{◌≡◌, take}
use Rattle.step_world.proofs.trace.copy_of_aborted.Given as goal

abbrev pub invariant-loop-ended : goal.invariant-loop-ended
invariant-loop-ended g l = l.copy.items ≡ take l.ended-index l.aborted
