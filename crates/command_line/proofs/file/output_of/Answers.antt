use Rattle.std.proofs.Common.{rules}
use Rattle.command_line.proofs.RunLemmas.{file_fault}
use Rattle.command_line.proofs.file.output_of.Goals as goal

pub returns-in_err-run-clause-refused : goal.returns-in_err-run-clause-refused
returns-in_err-run-clause-refused g c =
    let fault = file_fault c.args.text.now c.in_err-run.field-0.0 c.in_err-run.ensures.refused in search (rules, fault)

pub returns-clause-output : goal.returns-clause-output
returns-clause-output g c = record {
  tables = c.in_ok-tables.tables;
  actions = c.in_ok-tables.actions.items;
  run = c.in_ok-run.run';
  spelled = c.in_ok-tables.ensures.sessions;
  made = c.in_ok-run.ensures.run;
  written = c.in_ok-output.ensures;
}
