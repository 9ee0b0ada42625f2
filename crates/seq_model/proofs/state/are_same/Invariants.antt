use Rattle.std.proofs.Common.{◌≡◌, take}
use Rattle.seq_model.proofs.state.are_same.Given as goal

abbrev pub invariant-loop-i : goal.invariant-loop-i
invariant-loop-i g l = take l.i l.mine ≡ take l.i l.theirs
