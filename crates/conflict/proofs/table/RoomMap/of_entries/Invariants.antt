use Rattle.std.proofs.Common.{◌≡◌, ◌≤◌, length}
use Rattle.seq_model.specs.Entries.{inserts}
use Rattle.conflict.proofs.table.RoomMap.of_entries.Given as goal

abbrev pub invariant-loop-key : goal.invariant-loop-key
invariant-loop-key g l =
    (inserts l.table.contents l.key-iterator ≡ l.fn.entries) × (length l.key-iterator ≤ l.table.room)
