use Rattle.std.proofs.Common.{◌≡◌, ◌≤◌, drop, length}
use Rattle.seq_model.specs.Entries.{inserts}
use Rattle.actor_parts.proofs.copies.keep_editions.Given as goal

-- the editions that are left make the table whole, and there is room for them
abbrev pub invariant-loop-entry : goal.invariant-loop-entry
invariant-loop-entry l =
    (inserts l.known.contents (drop l.entry-index l.editions) ≡ inserts l.initial.known.contents l.editions)
    × (length (drop l.entry-index l.editions) ≤ l.known.room)
