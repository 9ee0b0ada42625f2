-- What collections are to a world: their locations, and what calls do to the parts that the locations cover.
use Rattle.std.specs.Prelude.{◌≡◌, ◌⊎◌, ◌==◌, ℕ, Bool, true, false, List, [], ◌∷◌, if◌then◌else◌}

pub record Content (X Op Out : Type 0) : Type 0 where
  pub plain : ℕ → Bool  -- a word of its own, of no collection
  pub home : ℕ → ℕ  -- the collection of a location
  pub outcome : (ℕ → X) → Op → Out  -- what a call answers where the locations have these parts
  pub op_of : Out → Op
  pub reads : Out → List ℕ
  pub writes : Out → List ℕ
  pub change : Out → (ℕ → X) → ℕ → X  -- the parts after it

abbrev pub IsIn : ℕ → List ℕ → Type 0
IsIn l [] = ⊥
IsIn l (k ∷ ks) = (l ≡ k) ⊎ IsIn l ks

abbrev pub has : List ℕ → ℕ → Bool
has [] l = false
has (k ∷ ks) l = if l == k then true else has ks l

-- The frame laws.
pub record Frame {X Op Out : Type 0} (c : Content X Op Out) : Type 0 where
  pub asked : (v : ℕ → X) (op : Op) → c.op_of (c.outcome v op) ≡ op
  -- an outcome depends on the parts that it reads
  pub legal : (v w : ℕ → X) (op : Op) → ((l : ℕ) → IsIn l (c.reads (c.outcome v op)) → v l ≡ w l) → c.outcome w op ≡ c.outcome v op
  -- its changes alter the parts that it writes, by those parts alone
  pub only : (o : Out) (v : ℕ → X) (l : ℕ) → (IsIn l (c.writes o) → ⊥) → c.change o v l ≡ v l
  pub local : (o : Out) (v w : ℕ → X) → ((i : ℕ) → IsIn i (c.writes o) → v i ≡ w i) → (l : ℕ) → IsIn l (c.writes o)
      → c.change o v l ≡ c.change o w l
  -- what is written is read
  pub read : (o : Out) (l : ℕ) → IsIn l (c.writes o) → IsIn l (c.reads o)
  -- it writes in one collection, and reads no word
  pub one_home : (o : Out) (l i : ℕ) → IsIn l (c.writes o) → IsIn i (c.writes o) → c.home i ≡ c.home l
  pub no_word : (o : Out) (l : ℕ) → IsIn l (c.reads o) → c.plain l ≡ false
