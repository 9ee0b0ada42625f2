use Rattle.std.proofs.Common.{◌≡◌, ◌≢◌, ◌⊎◌, ℕ, Some, None}
use Rattle.std.specs.Ordering.{nat_cmp}
use Rattle.std.specs.FinMap.{get, find}
use Rattle.vac_model.specs.Overlays.{without, AreElsewhereAlike}
use Rattle.vac_model.proofs.changes.admit.Given as goal

abbrev pub invariant-loop-key : goal.invariant-loop-key
invariant-loop-key g l = record {
  back : without l.below l.added ≡ without l.fn.below l.fn.added;
  elsewhere : AreElsewhereAlike l.fn.changes l.fn.below l.below;
  rest : (q : ℕ) → get l.fn.changes q ≡ None → find nat_cmp q l.key-iterator ≡ None;
  places : (q : ℕ) (v : _) → get l.fn.changes q ≡ Some (Some v) → (find nat_cmp q l.key-iterator ≡ Some (Some v)) ⊎ (get l.below q ≢ None);
}
