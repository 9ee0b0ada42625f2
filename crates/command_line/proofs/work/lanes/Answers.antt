use Rattle.command_line.proofs.work.lanes.Goals as goal

pub returns-clause-output : goal.returns-clause-output
returns-clause-output c = record {
  script = c.in_ok-script.script;
  run = c.in_ok-made.made;
  events = c.in_ok-made.events;
  spelled = c.in_ok-script.ensures.script;
  opening = c.in_ok-made.ensures.opening;
  made = c.in_ok-made.ensures.run;
  serial = c.in_ok-made.ensures.serial;
  audited = c.in_ok-audit_run.ensures.ok;
  printed = rw c.as_slice.ensures at c.in_ok-print_lanes.ensures;
}
