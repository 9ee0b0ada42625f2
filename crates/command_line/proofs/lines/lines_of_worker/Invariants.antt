use Rattle.std.proofs.Common.{◌≡◌, ◌+◌, length, List}
use Rattle.tx_engine.specs.Tasks.{Outcome}
use Rattle.client_sessions.specs.declared.entry.Entry.{Entry}
use Rattle.command_line.specs.Unread.{AreUnread}
use Rattle.command_line.proofs.LineLemmas.{IsAt, Missed}
use Rattle.command_line.proofs.lines.lines_of_worker.Given as goal

abbrev pub decreases-sessions : goal.decreases-sessions
decreases-sessions l = length l.left

abbrev pub invariant-sessions : goal.invariant-sessions
invariant-sessions l = record {
  count : l.place + length l.left ≡ length l.fn.sessions;
  told : (os : List (Outcome Entry)) (later : List Missed) → AreUnread l.worker 0 l.fn.sessions os later l.fn.receipts l.fn.missed
      → IsAt l.worker l.place l.fn.sessions os later l.left l.unread l.misses l.lines.items;
}
