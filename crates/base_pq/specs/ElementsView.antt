-- Elements with room for more.
use Rattle.std.specs.Prelude.{ℕ, refl}
use Rattle.std.specs.Coded.{Coded, code_by, coded_ℕ, coded×}
use Rattle.std.specs.Ordering.{nat_cmp}
use Rattle.std.specs.FinMap.{FinMap, code}
use Rattle.seq_model.specs.Counts.{Multiset}

-- the elements with their numbers, and how many more elements fit with no memory taken
pub record ElementsView : Type 0 where
  pub elements : Multiset
  pub room : ℕ

abbrev pub elements_code : Coded ElementsView
elements_code = code_by (FinMap nat_cmp ℕ × ℕ) (coded× (code coded_ℕ coded_ℕ) coded_ℕ) (λ s. (s.elements, s.room))
    (λ p. record { elements = p.0; room = p.1 }) (λ _. refl)
