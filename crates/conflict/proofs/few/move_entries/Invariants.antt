use Rattle.std.proofs.Common.{◌≡◌, ◌≤◌, ◌+◌, length}
use Rattle.std.specs.FinMap.{from_entries}
use Rattle.conflict.proofs.FewLemmas.{over}
use Rattle.conflict.proofs.few.move_entries.Given as goal

-- the entries that are left make the table whole, and there is room for them
abbrev pub invariant-loop-key : goal.invariant-loop-key
invariant-loop-key g l =
    (over l.few.items l.many.contents ≡ from_entries l.initial.few.items)
    × (l.initial.many.room + length l.few.items ≤ l.many.room + length l.initial.few.items)

abbrev pub decreases-loop-key : goal.decreases-loop-key
decreases-loop-key g l = length l.few.items
