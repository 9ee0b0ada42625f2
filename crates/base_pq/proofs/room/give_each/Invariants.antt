use Rattle.std.proofs.Common.{◌≡◌, length}
use Rattle.base_pq.proofs.RoomLemmas.{IsGiven}
use Rattle.base_pq.proofs.room.give_each.Given as goal

abbrev pub invariant-loop-change : goal.invariant-loop-change
invariant-loop-change g l =
    (length l.places.free.items ≡ length l.fn.places.free.items) × (l.places.held ≡ l.fn.places.held)
    × IsGiven (length l.fn.places.free.items) l.change-index l.changes l.fn.places.free.items l.places.free.items l.places.held
