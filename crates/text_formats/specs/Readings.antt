-- Reading a text line after line. `IsNext at bytes line behind` says that these bytes are this line, that it may stand at this
-- place of the text, and at which place the next one stands; `with_line` puts a line to what has been read.
use Rattle.std.specs.Prelude.{◌≡◌, ◌≢◌, ℕ, zero, suc, List, [], ◌∷◌}

module _ {P S L : Type 0} (IsNext : P → List ℕ → L → P → Type 0) (with_line : S → L → S) where
  -- reading on from what has been read, line after line, results in the whole; nothing stands after the last line feed
  abbrev pub Reads : P → S → List (List ℕ) → S → Type 0
  Reads at so_far [] whole = ⊥
  Reads at so_far (last ∷ []) whole = (last ≡ []) × (whole ≡ so_far)
  Reads at so_far (bytes ∷ next ∷ more) whole =
      (line : L) × (behind : P) × IsNext at bytes line behind × Reads behind (with_line so_far line) (next ∷ more) whole

module _ {P L : Type 0} (IsNext : P → List ℕ → L → P → Type 0) where
  -- the line with this number, counted from 1, is the first that is no line or may not stand where it does, or that ends
  -- without a line feed
  abbrev pub IsBad : P → List (List ℕ) → ℕ → Type 0
  IsBad at [] n = ⊥
  IsBad at (last ∷ []) n = (n ≡ 1) × (last ≢ [])
  IsBad at (bytes ∷ next ∷ more) zero = ⊥
  IsBad at (bytes ∷ next ∷ more) (suc zero) = (line : L) (behind : P) → IsNext at bytes line behind → ⊥
  IsBad at (bytes ∷ next ∷ more) (suc (suc n)) =
      (line : L) × (behind : P) × IsNext at bytes line behind × IsBad behind (next ∷ more) (suc n)
