use Rattle.std.proofs.Common.{◌≡◌, ◌≤◌, length}
use Rattle.base_pq.proofs.RoomLemmas.{IsTaken}
use Rattle.base_pq.proofs.room.take_each.Given as goal

abbrev pub invariant-loop-change : goal.invariant-loop-change
invariant-loop-change g l =
    (l.done ≡ l.change-index) × (l.elements.elements ≡ l.fn.elements.elements)
    × (length l.places.free.items ≡ length l.fn.places.free.items) × (l.places.held ≤ l.elements.room)
    × IsTaken (length l.fn.places.free.items) l.change-index l.changes l.fn.places.free.items l.places.free.items l.places.held
