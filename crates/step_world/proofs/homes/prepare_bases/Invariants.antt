use Rattle.std.proofs.Common.{◌≡◌}
use Rattle.step_world.specs.Homes.{AreAlike}
use Rattle.step_world.proofs.PrepareLemmas.{HaveRoomTo}
use Rattle.step_world.proofs.homes.prepare_bases.Given as goal

abbrev pub invariant-loop-i : goal.invariant-loop-i
invariant-loop-i g l =
    AreAlike l.initial.table.bases.items l.table.bases.items × (l.table.cells ≡ l.initial.table.cells)
    × (l.table.gates ≡ l.initial.table.gates) × HaveRoomTo l.i l.table l.actor.copies.items l.homes.items
