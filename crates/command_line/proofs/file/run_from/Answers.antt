use Rattle.std.proofs.Common.{rules}
use Rattle.workers.specs.Deals.{in_lists}
use Rattle.command_line.proofs.RunLemmas.{all_unread, only_memory, told_run}
use Rattle.command_line.proofs.file.run_from.Goals as goal

pub lines_of_report-requires-clause-there : goal.lines_of_report-requires-clause-there
lines_of_report-requires-clause-there g c =
    let made = c.in_ok-served.ensures in
    record {
      outcomes = made.outcomes;
      are = all_unread c.args.tables.now (in_lists c.args.lists.now) (in_lists c.args.sessions.now) c.in_ok-served.served
          c.requires.same made;
    }

pub returns-in_err-tables-in-Ok-clause-refused : goal.returns-in_err-tables-in-Ok-clause-refused
returns-in_err-tables-in-Ok-clause-refused g c =
    let fault = only_memory c.args.tables.now (in_lists c.args.lists.now) _ c.in_ok-served.served c.args.opening.now
    c.in_err-tables-in-Ok.field-0.0 c.in_ok-served.ensures c.requires.opening c.in_err-tables-in-Ok.ensures.finding in
    search (rules, fault)

pub returns-in-Ok-clause-run : goal.returns-in-Ok-clause-run
returns-in-Ok-clause-run g c =
    let lists = in_lists c.args.lists.now in
    let seen = in_lists c.args.sessions.now in
    let made = c.in_ok-served.ensures in
    let unread = all_unread c.args.tables.now lists seen c.in_ok-served.served c.requires.same made in
    told_run c.args.tables.now lists seen c.in_ok-served.served c.args.opening.now c.args.total _ c.requires.same made
    c.requires.opening c.in_ok-tables-in-Ok.ensures.sound (c.in-Ok.ensures made.outcomes unread)
    c.in_ok-tables-in-Ok.ensures.tables
