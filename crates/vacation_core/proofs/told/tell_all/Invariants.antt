use Rattle.std.proofs.Common.{◌≡◌, List, [], length}
use Rattle.std.specs.Prelude.{replicate}
use Rattle.vacation_core.specs.CommittedAnswers.{Told}
use Rattle.vacation_core.proofs.CommittedAnswerLemmas.{IsTelling}
use Rattle.vacation_core.proofs.told.tell_all.Given as goal

abbrev pub decreases-loop-entry : goal.decreases-loop-entry
decreases-loop-entry l = length l.left

abbrev pub invariant-loop-entry : goal.invariant-loop-entry
invariant-loop-entry l = record {
  tells : (whole : List Told) → IsTelling l.clients [] (replicate (length l.clients) 0) l.fn.records whole
      → IsTelling l.clients l.all.items l.told.items l.left whole;
  count : length l.told.items ≡ length l.clients;
}
