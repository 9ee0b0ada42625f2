use Rattle.std.proofs.Common.{◌≡◌, take}
use Rattle.seq_model.proofs.state.copy_of.Given as goal

abbrev pub invariant-loop-collection : goal.invariant-loop-collection
invariant-loop-collection g l = l.copy.items ≡ take l.collection-index l.held
