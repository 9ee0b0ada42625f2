use Rattle.std.proofs.Common.{◌≡◌, ◌≤◌, length, take}
use Rattle.std.specs.FinMap.{get}
use Rattle.base_queue.specs.SharedList.{with_odd}
use Rattle.base_queue.specs.Conflicts.{cells_from}
use Rattle.std.proofs.Common.{drop}
use Rattle.base_queue.proofs.cells.Cells.item.Given as goal

-- the cell is what the changes before this one left
abbrev pub invariant-loop-at : goal.invariant-loop-at
invariant-loop-at l =
    (get l.self.shown.cells l.index ≡ get (with_odd (cells_from l.self-inside.first (drop l.self-inside.gone l.self-inside.items.items))
    (take l.at l.self-inside.odd.items)) l.index) × (l.at ≤ length l.self-inside.odd.items)

abbrev pub decreases-loop-at : goal.decreases-loop-at
decreases-loop-at l = l.at
