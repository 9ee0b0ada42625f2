-- Finite maps from locations to values, as their entries in the order of the locations.
use Rattle.std.specs.Prelude.{◌≡◌, ℕ, ◌+◌, ◌<◌, ◌==◌, ◌↔◌, Option, Some, None, List, [], ◌∷◌, length, nat_lt, if◌then◌else◌, All, Contains}

abbrev pub Entries : Type 0
Entries = List (ℕ × ℕ)

-- the value of a location
unfoldable pub lookup : Entries → ℕ → Option ℕ
lookup [] location = None
lookup (e ∷ es) location = if location == e.0 then Some e.1 else lookup es location

-- the value of a location set
unfoldable pub with_entry : Entries → ℕ → ℕ → Entries
with_entry [] location value = (location, value) ∷ []
with_entry (e ∷ es) location value =
    if nat_lt location e.0 then (location, value) ∷ (e ∷ es)
    else if location == e.0 then (location, value) ∷ es
    else e ∷ with_entry es location value

unfoldable pub locations : Entries → List ℕ
locations [] = []
locations (e ∷ es) = e.0 ∷ locations es

-- each location is below those after it
abbrev pub IsRising : Entries → Type 0
IsRising [] = Unit {0}
IsRising (e ∷ es) = All (λ x. e.0 < x.0) es × IsRising es

-- Rising lists of entries are finite maps: what `lookup` answers is what was put last, and it says all that there is.
pub record AreFiniteMaps : Type 0 where
  pub empty : (location : ℕ) → lookup [] location ≡ None
  pub put : (es : Entries) (location value : ℕ) → lookup (with_entry es location value) location ≡ Some value
  pub others : (es : Entries) (location value other : ℕ) → (other ≡ location → ⊥)
      → lookup (with_entry es location value) other ≡ lookup es other
  pub length_there : (es : Entries) (location value : ℕ) → IsRising es → (lookup es location ≡ None → ⊥)
      → length (with_entry es location value) ≡ length es
  pub length_new : (es : Entries) (location value : ℕ) → lookup es location ≡ None → length (with_entry es location value) ≡ length es + 1
  pub rising : (es : Entries) (location value : ℕ) → IsRising es → IsRising (with_entry es location value)
  pub listed : (es : Entries) (location value : ℕ) → IsRising es → (lookup es location ≡ Some value) ↔ Contains es (location, value)
  pub same : (es fs : Entries) → IsRising es → IsRising fs → ((location : ℕ) → lookup es location ≡ lookup fs location) → es ≡ fs
