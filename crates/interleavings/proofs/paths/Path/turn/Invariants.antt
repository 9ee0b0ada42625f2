use Rattle.std.proofs.Common.{vec_len}
use Rattle.interleavings.proofs.paths.Path.turn.Given as goal

abbrev pub decreases-loop-choice : goal.decreases-loop-choice
decreases-loop-choice l = vec_len l.self.choices
