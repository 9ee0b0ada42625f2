use Rattle.std.proofs.Common.{◌≡◌, take}
use Rattle.interleavings.proofs.outcomes.copy_of_collections.Given as goal

abbrev pub invariant-loop-collection : goal.invariant-loop-collection
invariant-loop-collection l = l.copy.items ≡ take l.collection-index l.collections
