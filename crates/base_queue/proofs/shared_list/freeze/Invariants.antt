use Rattle.std.proofs.Common.{◌≡◌, ◌-◌, ◌≤◌, ◌++◌, drop, length}
use Rattle.base_queue.specs.declared.chunk.TheConstants.{CHUNK}
use Rattle.base_queue.specs.SharedList.{AreOf, flat}
use Rattle.base_queue.proofs.shared_list.freeze.Given as goal

-- the chunks and what is left make the same list as before
abbrev pub invariant-loop-at : goal.invariant-loop-at
invariant-loop-at l =
    (flat l.list.items ++ drop l.at l.items ≡ flat l.fn.list.items ++ l.fn.items) × (AreOf CHUNK l.fn.list.items → AreOf CHUNK l.list.items)
    × (l.at ≤ length l.items)

abbrev pub decreases-loop-at : goal.decreases-loop-at
decreases-loop-at l = length l.items - l.at
