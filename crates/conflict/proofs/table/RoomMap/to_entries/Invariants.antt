use Rattle.std.proofs.Common.{◌≡◌}
use Rattle.seq_model.specs.Entries.{inserts}
use Rattle.conflict.proofs.table.RoomMap.to_entries.Given as goal

-- the entries that are left make the copy whole
abbrev pub invariant-loop-key : goal.invariant-loop-key
invariant-loop-key g l = inserts l.entries l.key-iterator ≡ l.fn.self.contents
