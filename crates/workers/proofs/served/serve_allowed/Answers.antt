use Rattle.std.proofs.Common.{◌≡◌, arith}
use Rattle.shared_table.specs.Seated.{view}
use Rattle.shared_table.specs.declared.view.TheConstants.{SHARES}
use Rattle.job_workers.specs.Reports.{jobs_of}
use Rattle.workers.proofs.ListLemmas.{as_many}
use Rattle.workers.proofs.RunLemmas.{are_balanced, holds_some, served_so}
use Rattle.workers.proofs.served.serve_allowed.Goals as goal

pub run_workers_owned-seat-requires-clause-lists : goal.run_workers_owned-seat-requires-clause-lists
run_workers_owned-seat-requires-clause-lists g c κs within =
    let many = as_many c.in_ok-sessions.sessions.items c.args.lists.now c.in_ok-sessions.ensures in
    let some = c.requires.lists.0 in
    let few = c.requires.lists.1 in
    (omega (arith, many, some), omega (arith, many, few))

pub run_workers_owned-seat-requires-clause-shares : goal.run_workers_owned-seat-requires-clause-shares
run_workers_owned-seat-requires-clause-shares g c κs within =
    let many = as_many c.in_ok-sessions.sessions.items c.args.lists.now c.in_ok-sessions.ensures in
    let all : (view c.in_ok-table.seat.seat).shares ≡ SHARES = λ i. (c.in_ok-table.ensures.seat_is i).shares in
    let few = c.requires.lists.1 in
    omega (arith, many, all, few)

pub tables_left-requires : goal.tables_left-requires
tables_left-requires g c =
    let x =
    served_so c.args.tables.now c.args.stripes (jobs_of c.args.lists.now) _ c.in_ok-table.table c.args.tries c.in_ok-table.seat _ _
    c.in_ok-report.report
    c.in_ok-state.state c.requires.balanced c.requires.allowed c.in_ok-sessions.ensures c.in_ok-table.ensures
    c.run_workers_owned-seat.ensures.ready c.run_workers_owned-seat.ensures.report c.run_workers_owned-seat.ensures.gains c.in_ok-report.was
    c.in_ok-state.ensures in
    holds_some c.args.tables.now _ c.in_ok-state.state x.2

pub returns : goal.returns
returns g c =
    let x =
    served_so c.args.tables.now c.args.stripes (jobs_of c.args.lists.now) _ c.in_ok-table.table c.args.tries c.in_ok-table.seat _ _
    c.in_ok-report.report
    c.in_ok-state.state c.requires.balanced c.requires.allowed c.in_ok-sessions.ensures c.in_ok-table.ensures
    c.run_workers_owned-seat.ensures.ready c.run_workers_owned-seat.ensures.report c.run_workers_owned-seat.ensures.gains c.in_ok-report.was
    c.in_ok-state.ensures in
    record {
      outcomes = x.0;
      reported = x.1;
      table = c.in_ok-table.table;
      opened = c.in_ok-table.ensures.opened;
      contents = c.in_ok-table.ensures.contents;
      ran = x.3;
      run = x.2;
      audited = x.4;
      left = c.in_ok-tables.ensures.held;
      balanced = are_balanced c.args.tables.now c.in_ok-tables.tables _ c.in_ok-state.state x.2 c.in_ok-tables.ensures.inverse;
    }
