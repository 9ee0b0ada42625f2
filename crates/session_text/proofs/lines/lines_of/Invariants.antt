use Rattle.std.proofs.Common.{length}
use Rattle.session_text.specs.Receipts.{AreReceipts}
use Rattle.session_text.proofs.LineLemmas.{GoesOn}
use Rattle.session_text.proofs.lines.lines_of.Given as goal

abbrev pub decreases-loop-action : goal.decreases-loop-action
decreases-loop-action l = length l.left

abbrev pub invariant-loop-action : goal.invariant-loop-action
invariant-loop-action l = record {
  goes : GoesOn l.fn.actions l.left l.fn.receipts l.unread l.lines.items;
  receipts : AreReceipts l.left l.unread;
}
