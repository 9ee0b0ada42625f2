use Rattle.std.proofs.Common.{◌≡◌, ◌≤◌, length}
use Rattle.seq_model.specs.Entries.{inserts}
use Rattle.conflict.proofs.table.RoomMap.copy_from.Given as goal

-- the entries that are left make the copy whole, and there is room for them
abbrev pub invariant-loop-key : goal.invariant-loop-key
invariant-loop-key g l = (inserts l.self.contents l.key-iterator ≡ l.fn.other.contents) × (length l.key-iterator ≤ l.self.room)
