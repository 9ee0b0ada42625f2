use Rattle.client_sessions.proofs.ChangedLemmas.{changed_next}
use Rattle.client_sessions.proofs.update.pass_changes.Goals as goal

pub changes-preserved : goal.changes-preserved
changes-preserved c =
    let l = c.changes in
    changed_next c.args.changes.now c.args.replies.now l.heard l.passed l.invariant c.split_at.result.1.now c.replies_to-count.result _
    c.split_at.ensures.back c.changes-test.true c.replies_to-count.ensures.few (c.replies_to-count.ensures.made c.if-count-eq0.false)
