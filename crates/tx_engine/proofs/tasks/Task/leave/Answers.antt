use Rattle.std.proofs.Common.{rules}
use Rattle.tx_engine.proofs.TaskLemmas.{next_left, none_more, then_same}
use Rattle.tx_engine.proofs.tasks.Task.leave.Goals as goal

pub jobs-preserved : goal.jobs-preserved
jobs-preserved g c =
    let before = c.jobs.self in
    let more = next_left before.worker before.jobs.items c.jobs.i before.receipts.items before.missed.items (search rules)
    c.jobs.invariant.left in
    record {
      same = then_same c.args.self.now before c.note.new.self c.jobs.invariant.same c.note.ensures.same;
      room = c.note.ensures.room;
      left = rw (c.note.ensures.same.0, c.note.ensures.same.1, c.note.ensures.receipts, c.note.ensures.missed) more;
      none = none_more before.receipts.items c.note.new.self.receipts.items c.jobs.invariant.none c.note.ensures.receipts;
    }
