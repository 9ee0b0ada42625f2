use Rattle.std.proofs.Common.{◌≡◌, ◌+◌, length, List}
use Rattle.workers.specs.Deals.{in_lists, in_queues}
use Rattle.tx_engine.specs.Tasks.{Outcome}
use Rattle.client_sessions.specs.declared.entry.Entry.{Entry}
use Rattle.command_line.specs.Unread.{AreAllUnread}
use Rattle.command_line.proofs.LineLemmas.{IsAllAt}
use Rattle.command_line.proofs.lines.lines_of_report.Given as goal

abbrev pub decreases-workers : goal.decreases-workers
decreases-workers l = length l.left

abbrev pub invariant-workers : goal.invariant-workers
invariant-workers l = record {
  count : l.worker + length l.left ≡ 1 + length l.fn.sessions;
  many : 1 + length l.queues.items ≡ l.worker;
  told : (outcomes : List (List (Outcome Entry)))
      → AreAllUnread 1 (in_lists l.fn.sessions) outcomes l.fn.report.receipts l.fn.report.missed
      → IsAllAt l.worker (in_lists l.fn.sessions) outcomes (in_lists l.left) l.unread l.missed (in_queues l.queues.items);
}
