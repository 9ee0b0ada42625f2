-- A list whose copies share chunks, and a queue's cells that stand in it.
use Rattle.std.specs.Prelude.{◌≡◌, ℕ, List, [], ◌∷◌, ◌++◌, All, Option, Some, None, fold, length, refl}
use Rattle.std.specs.Coded.{Coded, code_by, coded_ℕ, coded_list, coded×}
use Rattle.std.specs.Ordering.{nat_cmp}
use Rattle.std.specs.FinMap.{FinMap, insert, remove}

-- what is in the list, and how many more items fit with no memory taken
pub record ListView : Type 0 where
  pub items : List ℕ
  pub room : ℕ

abbrev pub list_code : Coded ListView
list_code = code_by (List ℕ × ℕ) (coded× (coded_list coded_ℕ) coded_ℕ) (λ s. (s.items, s.room)) (λ p. record { items = p.0; room = p.1 })
    (λ _. refl)

-- the items of chunks, one chunk after another
abbrev pub flat : List (List ℕ) → List ℕ
flat [] = []
flat (c ∷ cs) = c ++ flat cs

-- each chunk has so many items
abbrev pub AreOf : ℕ → List (List ℕ) → Type 0
AreOf n cs = All (λ c. length c ≡ n) cs

-- what becomes of the cell of this index, of which this is said
abbrev pub with_one : FinMap nat_cmp ℕ → ℕ × Option ℕ → FinMap nat_cmp ℕ
with_one m (index, Some x) = insert m index x
with_one m (index, None) = remove m index

abbrev pub with_odd : FinMap nat_cmp ℕ → List (ℕ × Option ℕ) → FinMap nat_cmp ℕ
with_odd m odd = fold with_one m odd
