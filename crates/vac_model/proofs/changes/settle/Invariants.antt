use Rattle.std.proofs.Common.{◌≡◌, ◌≢◌, ℕ, Some, None}
use Rattle.std.specs.Ordering.{nat_cmp}
use Rattle.std.specs.FinMap.{get, find}
use Rattle.seq_model.specs.Entries.{IsRising}
use Rattle.vac_model.specs.Overlays.{laid_by, laid}
use Rattle.vac_model.proofs.changes.settle.Given as goal

abbrev pub invariant-loop-key : goal.invariant-loop-key
invariant-loop-key g l = record {
  rising : IsRising l.key-iterator;
  places : (q : ℕ) (v : _) → find nat_cmp q l.key-iterator ≡ Some (Some v) → get l.below q ≢ None;
  rest : laid_by l.below l.key-iterator ≡ laid l.fn.below l.fn.changes;
}
