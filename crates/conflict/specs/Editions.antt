-- The editions of locations.
use Rattle.std.specs.Prelude.{◌≡◌, ℕ, ◌+◌, ◌<◌, List, Contains, fold, length, slice_index, slice_set}
use Rattle.std.specs.List.Sorted.{IsStrictlyIncreasing}

-- the editions, with that of each of these locations raised by one
abbrev pub raised : List ℕ → List ℕ → List ℕ
raised written editions = fold (λ es l. slice_set es l (slice_index es l + 1)) editions written

-- each location that is written gets one more, and the others keep theirs
abbrev pub RaisesWritten : Type 0
RaisesWritten =
    (written editions : List ℕ) (l : ℕ) → IsStrictlyIncreasing written → Contains written l → l < length editions
    → slice_index (raised written editions) l ≡ slice_index editions l + 1

abbrev pub KeepsOthers : Type 0
KeepsOthers = (written editions : List ℕ) (l : ℕ) → ¬ Contains written l → slice_index (raised written editions) l ≡ slice_index editions l
