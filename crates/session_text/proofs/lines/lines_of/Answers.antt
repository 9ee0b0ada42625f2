use Rattle.session_text.proofs.LineLemmas.{at_end, first_of, is_done}
use Rattle.session_text.proofs.lines.lines_of.Goals as goal

pub line_for-requires-clause-done : goal.line_for-requires-clause-done
line_for-requires-clause-done c =
    is_done c.in-Some.action.now c.in-Some-split_first.receipt.now
    (first_of c.loop-action.left.now c.in-Some.later.now c.loop-action.unread.now c.in-Some-split_first.behind.now c.in-Some.action.now
    c.in-Some-split_first.receipt.now c.in-Some.ensures.cases.0 c.in-Some-split_first.ensures.cases.0 c.loop-action.invariant.receipts).0

pub returns : goal.returns
returns c =
    at_end c.args.actions.now c.loop-action.left.now c.args.receipts.now c.loop-action.unread.now c.loop-action.lines.items
    c.in_default.ensures.cases c.loop-action.invariant.goes c.loop-action.invariant.receipts
