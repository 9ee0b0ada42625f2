use Rattle.std.proofs.Common.{length}
use Rattle.interleavings.proofs.keys.push_state.Given as goal

abbrev pub decreases-loop-line : goal.decreases-loop-line
decreases-loop-line l = length l.rest
