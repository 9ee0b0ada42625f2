use Rattle.std.proofs.Common.{All, ◌≤◌}
use Rattle.interleavings.specs.Explorations.{IsCounted, IsOutcomeOf}
use Rattle.interleavings.proofs.exploring.explore_script.Given as goal

abbrev pub invariant-loop-run : goal.invariant-loop-run
invariant-loop-run g l = record {
  outcomes : All (IsOutcomeOf l.script) l.found.outcomes.items;
  counted : IsCounted l.found;
  few : l.found.interleavings ≤ l.run;
}
