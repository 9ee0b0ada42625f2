-- What a transaction is going to change in a collection.
use Rattle.std.specs.Prelude.{◌≡◌, ℕ, ◌+◌, ◌<◌, ◌↔◌, List, Contains, length, slice_index}
use Rattle.std.specs.List.Sorted.{IsStrictlyIncreasing}
use Rattle.conflict.specs.declared.change.Change.{Change}
use Rattle.conflict.specs.Editions.{raised}

-- the changes in order, and the locations with which they were pushed
pub record LogView (V : Type 0) : Type 0 where
  pub changes : List (Change V)
  pub locations : List ℕ
  pub room : ℕ  -- for so many more changes there is memory
  pub places : ℕ  -- so many locations fit in all

-- the edition of each of these locations is raised by one, however often it stands among them
abbrev pub AreRaised : List ℕ → List ℕ → List ℕ → Type 0
AreRaised locations before now =
    (written : List ℕ)
    × IsStrictlyIncreasing written × ((l : ℕ) → Contains written l ↔ Contains locations l) × (now ≡ raised written before)

-- so a location among them has its edition one higher, and any other keeps it
abbrev pub RaisesEach : Type 0
RaisesEach =
    (locations before now : List ℕ) (l : ℕ) → AreRaised locations before now → Contains locations l → l < length before
    → slice_index now l ≡ slice_index before l + 1

abbrev pub KeepsOthers : Type 0
KeepsOthers =
    (locations before now : List ℕ) (l : ℕ) → AreRaised locations before now → ¬ Contains locations l
    → slice_index now l ≡ slice_index before l
