use Rattle.std.proofs.Common.{◌≡◌, ◌-◌, ◌≤◌, None, length, take}
use Rattle.actor_parts.specs.CopyList.{copy_of}
use Rattle.actor_parts.proofs.footprints.position_of.Given as goal

-- none of those before this one is of the collection
abbrev pub invariant-loop-i : goal.invariant-loop-i
invariant-loop-i g l = (l.i ≤ length l.copies) × (copy_of (take l.i l.copies) l.collection ≡ None)

abbrev pub decreases-loop-i : goal.decreases-loop-i
decreases-loop-i g l = length l.copies - l.i
