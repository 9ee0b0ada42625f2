use Rattle.std.proofs.Common.{◌≡◌, ◌+◌, ◌≤◌, length}
use Rattle.std.specs.Prelude.{reverse}
use Rattle.std.specs.Vec.{vec_capacity}
use Rattle.conflict.specs.Rules.{applied}
use Rattle.base_bag.specs.Conflicts.{rules}
use Rattle.base_bag.proofs.bag_base.apply_changes.Given as goal

-- what is left to apply leads to the same multiset, there is room for it, and what was applied took no more room than one place each
abbrev pub invariant-loop-change : goal.invariant-loop-change
invariant-loop-change g l =
    (applied (rules _) (reverse l.changes.items) l.elements.shown ≡ applied (rules _) l.fn.changes.items l.fn.elements.shown)
    × (length l.changes.items ≤ l.elements.room)
    × (l.fn.elements.room + length l.changes.items ≤ l.elements.room + length l.fn.changes.items)
    × (vec_capacity l.changes ≡ vec_capacity l.fn.changes)

abbrev pub decreases-loop-change : goal.decreases-loop-change
decreases-loop-change g l = goal.left-loop-change g l
