use Rattle.std.proofs.Common.{vec_len}
use Rattle.actor_parts.proofs.spares.Spares.clear.Given as goal

abbrev pub decreases-loop-copy : goal.decreases-loop-copy
decreases-loop-copy g l = vec_len l.copies
