-- Elements with room for changes, by stripe.
use Rattle.std.specs.Prelude.{ℕ, List, refl}
use Rattle.std.specs.Coded.{Coded, code_by, coded_ℕ, coded_list, coded×}
use Rattle.std.specs.Ordering.{nat_cmp}
use Rattle.std.specs.FinMap.{FinMap, code}
use Rattle.seq_model.specs.Counts.{Multiset}

-- the elements, how many stripes they are divided over, and for how many changes there is room in each of them
pub record StripedView : Type 0 where
  pub elements : Multiset
  pub stripes : ℕ
  pub room : List ℕ

abbrev pub striped_code : Coded StripedView
striped_code =
    code_by (FinMap nat_cmp ℕ × (ℕ × List ℕ)) (coded× (code coded_ℕ coded_ℕ) (coded× coded_ℕ (coded_list coded_ℕ)))
    (λ s. (s.elements, (s.stripes, s.room))) (λ p. record { elements = p.0; stripes = p.1.0; room = p.1.1 }) (λ _. refl)
