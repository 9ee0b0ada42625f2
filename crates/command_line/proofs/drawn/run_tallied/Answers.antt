use Rattle.std.proofs.Common.{rules}
use Rattle.workers.specs.Deals.{in_lists}
use Rattle.command_line.proofs.RunLemmas.{drawn_run, only_memory}
use Rattle.command_line.proofs.drawn.run_tallied.Goals as goal

pub returns-in_err-causes-clause-refused : goal.returns-in_err-causes-clause-refused
returns-in_err-causes-clause-refused g c =
    let fault = only_memory c.args.tables.now (in_lists c.args.lists.now) _ c.in_ok-served.served c.args.first.now
    c.in_err-causes.field-0.0 c.in_ok-served.ensures c.requires.first c.in_err-causes.ensures.finding in
    search (rules, fault)

pub returns-clause-run : goal.returns-clause-run
returns-clause-run g c =
    drawn_run c.args.drawn.now c.args.tables.now (in_lists c.args.lists.now) c.in_ok-served.served c.args.first.now c.len-missed.result
    c.requires.tables c.requires.lists c.in_ok-served.ensures c.requires.first c.in_ok-causes.ensures.sound c.len-missed.ensures
