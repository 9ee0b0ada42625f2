use Rattle.std.proofs.Common.{rules, length, ◌≡◌, [], ◌∷◌}
use Rattle.tx_engine.proofs.TaskLemmas.{all_tried, next_tried, then_gains, then_joined, then_same, tried_gains, tried_joined}
use Rattle.tx_engine.specs.Tasks.{IsTried, receipts_in}
use Rattle.tx_engine.proofs.tasks.Task.work.Goals as goal

pub jobs-preserved : goal.jobs-preserved
jobs-preserved g c =
    let asks = g.J.Job.asks in
    let t = c.args.table.now in
    let tries = c.args.tries in
    let before = c.jobs.self in
    let job = c.index.result.now in
    let o = c.retry_in-outcome.result in
    let s = c.args.seat.now in
    let m = c.jobs.seat in
    let u = c.retry_in-outcome.new.seat in
    let tried : IsTried (asks job) t tries m u o = record {
      ready = c.retry_in-outcome.ensures.ready;
      rests = c.retry_in-outcome.ensures.rests;
      receipt = c.retry_in-outcome.ensures.receipt;
      none = c.retry_in-outcome.ensures.none;
    } in
    let more = next_tried asks t tries before.worker before.jobs.items c.jobs.i before.receipts.items before.missed.items s m u job o
    (search rules) c.index.ensures c.jobs.invariant.tried tried in
    record {
      ready = tried.ready;
      same = then_same c.args.self.now before c.note.new.self c.jobs.invariant.same c.note.ensures.same;
      room = c.note.ensures.room;
      tried = rw (c.note.ensures.same.0, c.note.ensures.same.1, c.note.ensures.receipts, c.note.ensures.missed) more;
      gains = rw c.note.ensures.receipts (then_gains s m u before.receipts.items (receipts_in (o ∷ [])) c.jobs.invariant.gains
          (tried_gains (asks job) t tries m u o tried));
      joined = then_joined s m u [] [] c.jobs.invariant.joined (tried_joined (asks job) t tries m u o tried);
    }

pub returns-clause-done : goal.returns-clause-done
returns-clause-done g c =
    let end : c.jobs.i ≡ length c.jobs.self.jobs.items = search rules in
    all_tried g.J.Job.asks c.args.table.now c.args.tries c.jobs.self c.jobs.i c.args.seat.now c.jobs.seat end c.requires.ready
    c.jobs.invariant.tried
