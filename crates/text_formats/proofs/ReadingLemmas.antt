-- Reading on from line to line. A text that is cut at its first line feed has the line as its first piece and then the pieces of the rest,
-- of which there is always one. So what is read of it begins with what the line is, and continues with the rest.
use Rattle.std.proofs.Common.{rules, arith, sym, subst, ◌∙◌, refl, ◌≡◌, ◌≢◌, ℕ, suc, ◌+◌, List, [], ◌∷◌, IfSome, Option, Some}
use Rattle.text_formats.specs.Cuts.{pieces}
use Rattle.text_formats.specs.Readings.{IsBad, Reads}
use Rattle.text_formats.proofs.CutLemmas.{a_piece}

one_line : {P L : Type 0} (a b : L) (p q : P) → ◌≡◌ {A = Option (L × P)} (Some (a, p)) (Some (b, q)) → (b ≡ a) × (q ≡ p)
one_line a b p q e = search (rules, e)

module _ {P L : Type 0} (IsNext : P → List ℕ → L → P → Type 0) where
  -- `left` begins with a line, these bytes, and `rest` stands after it
  module _ (at : P) (bytes left rest : List ℕ) (cut : pieces left ≡ bytes ∷ pieces rest) where
    -- the line is none that may stand here
    pub bad_here : ((line : L) (behind : P) → IsNext at bytes line behind → ⊥) → IsBad IsNext at (pieces left) 1
    bad_here none = let piece = a_piece rest in rw cut (rw piece.2 none)

    -- the line is `line`
    pub bad_behind : (line : L) (behind : P) → IsNext at bytes line behind → (n : ℕ)
        → IsBad IsNext behind (pieces rest) (suc n) → IsBad IsNext at (pieces left) (suc (suc n))
    bad_behind line behind next n h = let piece = a_piece rest in rw cut (rw piece.2 (line, behind, next, rw piece.2 at h))

  -- what stands after the last line feed is no line
  pub bad_last : (at : P) (left : List ℕ) → pieces left ≡ left ∷ [] → left ≢ [] → IsBad IsNext at (pieces left) 1
  bad_last at left uncut some = rw uncut (refl, some)

  -- the line as which r was read
  pub next_of : (at : P) (bytes : List ℕ) (r : Option (L × P)) (line : L) (behind : P) → r ≡ Some (line, behind)
      → IfSome r (λ p. IsNext at bytes p.0 p.1) → IsNext at bytes line behind
  next_of at bytes r line behind some found = rw some at found

  -- and no other
  pub only_one : (at : P) (bytes : List ℕ) (r : Option (L × P)) (line : L) (behind : P) → r ≡ Some (line, behind)
      → ((l : L) (b : P) → IsNext at bytes l b → r ≡ Some (l, b))
      → (l : L) (b : P) → IsNext at bytes l b → (l ≡ line) × (b ≡ behind)
  only_one at bytes r line behind some only l b next = one_line line l behind b (sym some ∙ only l b next)

module _ {P S L : Type 0} (IsNext : P → List ℕ → L → P → Type 0) (with_line : S → L → S) where
  module _ (at : P) (bytes left rest : List ℕ) (cut : pieces left ≡ bytes ∷ pieces rest) where
    -- what is read begins with what the line is
    abbrev pub Begins : S → S → Type 0
    Begins so_far whole =
        (line : L) × (behind : P) × IsNext at bytes line behind
        × Reads IsNext with_line behind (with_line so_far line) (pieces rest) whole

    reads_line : (so_far whole : S) → Reads IsNext with_line at so_far (pieces left) whole → Begins so_far whole
    reads_line so_far whole h =
        let piece = a_piece rest in
        let f : Reads IsNext with_line at so_far (bytes ∷ piece.0 ∷ piece.1) whole = rw piece.2 at (rw cut at h) in
        (f.0, f.1, f.2, rw piece.2 f.3)

    pub unread : ((line : L) (behind : P) → IsNext at bytes line behind → ⊥) → (so_far whole : S)
        → Reads IsNext with_line at so_far (pieces left) whole → ⊥
    unread none so_far whole h = let f = reads_line so_far whole h in none f.0 f.1 f.2

    pub reads_front : (line : L) (behind : P) → IsNext at bytes line behind → (so_far added whole : S) → added ≡ with_line so_far line
        → Reads IsNext with_line behind added (pieces rest) whole → Reads IsNext with_line at so_far (pieces left) whole
    reads_front line behind next so_far added whole is h =
        let piece = a_piece rest in rw cut (rw piece.2 (line, behind, next, rw piece.2 at (rw is at h)))

    pub reads_back : (line : L) (behind : P) → ((l : L) (b : P) → IsNext at bytes l b → (l ≡ line) × (b ≡ behind))
        → (so_far added whole : S) → added ≡ with_line so_far line
        → Reads IsNext with_line at so_far (pieces left) whole → Reads IsNext with_line behind added (pieces rest) whole
    reads_back line behind only so_far added whole is h =
        let f = reads_line so_far whole h in
        let same = only f.0 f.1 f.2 in
        rw is (rw (same.0, same.1) at f.3)

-- ---- the number of a line
module _ (IsBadLine : ℕ → Type 0) where
  pub line_number : (number : ℕ) → IsBadLine (number + 0) → IsBadLine number
  line_number number h = subst IsBadLine (the number) h
    where
      the : (n : ℕ) → n + 0 ≡ n
      the n = omega arith

  pub next_number : (number n : ℕ) → IsBadLine (number + suc n) → IsBadLine (number + 1 + n)
  next_number number n h = subst IsBadLine (the number n) h
    where
      the : (number n : ℕ) → number + suc n ≡ number + 1 + n
      the number n = omega arith
