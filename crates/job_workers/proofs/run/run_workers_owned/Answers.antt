use Rattle.std.proofs.Common.{arith}
use Rattle.job_workers.proofs.ReportLemmas.{flat_gained, is_report, lists_fit, missed_fit}
use Rattle.tx_engine.proofs.TaskLemmas.{keeps_gains}
use Rattle.job_workers.specs.Trees.{gained}
use Rattle.job_workers.proofs.run.run_workers_owned.Goals as goal

pub filled-requires-clause-receipts : goal.filled-requires-clause-receipts
filled-requires-clause-receipts g c =
    let fit = lists_fit g.J.Job.asks c.args.table.now c.args.tries c.args.lists.items c.in-Ok.tree.value c.run_tree-seat.result.1.value
    c.in-Ok.ensures.tree c.args.seat c.run_tree-seat.result.0 c.run_tree-seat.ensures in
    let room = c.in-Ok.ensures.draft.receipts in
    omega arith

pub filled-requires-clause-missed : goal.filled-requires-clause-missed
filled-requires-clause-missed g c =
    let fit = missed_fit g.J.Job.asks c.args.table.now c.args.tries c.args.lists.items c.in-Ok.tree.value c.run_tree-seat.result.1.value
    c.in-Ok.ensures.tree c.args.seat c.run_tree-seat.result.0 c.run_tree-seat.ensures in
    let room = c.in-Ok.ensures.draft.missed in
    omega arith

pub returns-in-Ok-clause-report : goal.returns-in-Ok-clause-report
returns-in-Ok-clause-report g c =
    is_report g.J.Job.asks c.args.table.now c.args.tries c.args.lists.items c.in-Ok.tree.value c.run_tree-seat.result.1.value
    c.in-Ok.ensures.tree c.args.seat c.run_tree-seat.result.0 c.run_tree-seat.ensures c.abort.new.seat c.filled.result c.abort.ensures.keeps
    c.filled.ensures.receipts c.filled.ensures.missed

pub returns-in-Ok-clause-gains : goal.returns-in-Ok-clause-gains
returns-in-Ok-clause-gains g c =
    let after = c.run_tree-seat.result.1.value in
    let all = keeps_gains c.args.seat c.run_tree-seat.result.0 c.abort.new.seat (gained after) c.run_tree-seat.ensures.gains
    c.abort.ensures.keeps in
    rw (c.filled.ensures.receipts, flat_gained after) all
