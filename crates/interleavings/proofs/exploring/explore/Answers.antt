use Rattle.std.proofs.Common.{rules}
use Rattle.interleavings.proofs.FaultLemmas.{unexplored}
use Rattle.interleavings.proofs.exploring.explore.Goals as goal

pub returns-in_err-found-clause-refused : goal.returns-in_err-found-clause-refused
returns-in_err-found-clause-refused g c =
    let fault = unexplored c.args.text.now c.in_ok-script.script c.in_err-found.field-0.0 c.in_ok-script.ensures.script
    c.in_err-found.ensures.refused in
    search (rules, fault)

pub returns-clause-explored : goal.returns-clause-explored
returns-clause-explored g c = record {
  script = c.in_ok-script.script;
  found = c.in_ok-found.found;
  spelled = c.in_ok-script.ensures.script;
  outcomes = c.in_ok-found.ensures.outcomes;
  counted = c.in_ok-found.ensures.counted;
  few = c.in_ok-found.ensures.few;
  printed = c.in_ok-print_exploration.ensures;
}
