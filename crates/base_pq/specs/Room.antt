-- For which changes the stripes of a priority queue have room: each for as many as fall on it.
use Rattle.std.specs.Prelude.{ℕ, ◌+◌, ◌<◌, ◌≤◌, ◌%◌, List, [], ◌∷◌, ◌++◌, sum_by, Option, Some, None, nat_eq, if◌then◌else◌}
use Rattle.std.specs.Prelude.{slice_index_or}
use Rattle.conflict.specs.declared.change.Change.{Change}
use Rattle.conflict.specs.declared.change.Change.TheVariants as change

-- how much room of stripe i an element takes which is in this stripe, if in any
abbrev pub room_taken : ℕ → Option ℕ → ℕ
room_taken i None = 0
room_taken i (Some j) = if nat_eq j i then 1 else 0

-- how much room it takes in all
abbrev pub some_room : Option ℕ → ℕ
some_room None = 0
some_room (Some j) = 1

-- with no less room in any stripe
abbrev pub IsNoLess : List ℕ → List ℕ → Type 0
IsNoLess before now = (i : ℕ) → slice_index_or before i 0 ≤ slice_index_or now i 0

module _ {V : Type 0} where
  -- the stripe, of n, whose elements the change changes
  abbrev pub stripe_of : ℕ → Change V → Option ℕ
  stripe_of n (change.Add x) = Some (x % n)
  stripe_of n (change.Take x) = Some (x % n)
  stripe_of n c = None

  -- how many of these changes fall on stripe i of n
  abbrev pub falling : ℕ → ℕ → List (Change V) → ℕ
  falling n i [] = 0
  falling n i (c ∷ cs) = room_taken i (stripe_of n c) + falling n i cs

  -- how many of them fall on any stripe
  abbrev pub fallen : ℕ → List (Change V) → ℕ
  fallen n cs = sum_by (λ c. some_room (stripe_of n c)) cs

  -- n stripes with so much room each have room for all of these changes
  abbrev pub HasRoom : ℕ → List ℕ → List (Change V) → Type 0
  HasRoom n room cs = (i : ℕ) → i < n → falling n i cs ≤ slice_index_or room i 0

  -- where there was room for these changes and others, there is room for the others afterwards
  abbrev pub LeavesRoom : ℕ → List (Change V) → List ℕ → List ℕ → Type 0
  LeavesRoom n cs before now = (more : List (Change V)) → HasRoom n before (cs ++ more) → HasRoom n now more
