-- A collection, as contracts see it.
use Rattle.std.specs.Prelude.{ℕ, List, refl}
use Rattle.std.specs.Coded.{Coded, code_by, coded_ℕ, coded_list, coded×}

-- what it shows to calls, the number of its stripes, the edition of each location, and its room for changes: a number of changes, or one
-- for each stripe
pub record BaseView (C R : Type 0) : Type 0 where
  pub shown : C
  pub stripes : ℕ
  pub editions : List ℕ
  pub room : R

-- what it shows, with the room for changes
pub record RoomyView (C : Type 0) : Type 0 where
  pub shown : C
  pub room : ℕ

abbrev pub base_view_code : {C R : Type 0} → Coded C → Coded R → Coded (BaseView C R)
base_view_code {C} {R} shown room =
    code_by (C × (ℕ × (List ℕ × R))) (coded× shown (coded× coded_ℕ (coded× (coded_list coded_ℕ) room)))
    (λ s. (s.shown, (s.stripes, (s.editions, s.room)))) (λ p. record { shown = p.0; stripes = p.1.0; editions = p.1.1.0; room = p.1.1.1 })
    (λ _. refl)

abbrev pub roomy_view_code : {C : Type 0} → Coded C → Coded (RoomyView C)
roomy_view_code {C} shown =
    code_by (C × ℕ) (coded× shown coded_ℕ) (λ s. (s.shown, s.room)) (λ p. record { shown = p.0; room = p.1 }) (λ _. refl)
