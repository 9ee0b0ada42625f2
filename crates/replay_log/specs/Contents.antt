-- The collections of a world as the content of its locations: the words come first, then the block of each collection in turn.
use Rattle.std.specs.Prelude.{ℕ, zero, suc, ◌+◌, ◌-◌, ◌<◌, Bool, ◌||◌, not, List, [], ◌∷◌, Option, Some, None, nat_lt, if◌then◌else◌}
use Rattle.std.specs.FinMap.{empty}
use Rattle.seq_model.specs.declared.call.Op.{Op}
use Rattle.conflict.specs.declared.outcome.Outcome.{Outcome}
use Rattle.tx_machine.specs.Content.{Content, has}
use Rattle.replay_log.specs.Base.{Shown, OfMap, after, changes_of, outcome_of, reads_of, writes_of}
use Rattle.replay_log.specs.Parts.{Kind, MapKind, BagKind, PqKind, QueueKind, part, whole}

-- A collection's place among the locations.
pub record Block : Type 0 where
  pub kind : Kind
  pub stripes : ℕ

-- how many locations it has
abbrev pub size_by : Kind → ℕ → ℕ
size_by MapKind n = n
size_by BagKind n = n
size_by PqKind n = n + 1
size_by QueueKind n = n + 2

abbrev pub size : Block → ℕ
size b = size_by b.kind b.stripes

-- the block of collection k
abbrev pub block_of : List Block → ℕ → Option Block
block_of [] k = None
block_of (b ∷ bs) zero = Some b
block_of (b ∷ bs) (suc k) = block_of bs k

-- its first location, after w words
abbrev pub first_of : ℕ → List Block → ℕ → ℕ
first_of w [] k = w
first_of w (b ∷ bs) zero = w
first_of w (b ∷ bs) (suc k) = first_of (w + size b) bs k

-- the end of all blocks
abbrev pub end_of : ℕ → List Block → ℕ
end_of w [] = w
end_of w (b ∷ bs) = end_of (w + size b) bs

-- the collection that a location is in
abbrev pub home_of : ℕ → List Block → ℕ → ℕ
home_of w [] l = 0
home_of w (b ∷ bs) l = if nat_lt l (w + size b) then 0 else suc (home_of (w + size b) bs l)

-- a location that is in none
abbrev pub is_plain : ℕ → List Block → ℕ → Bool
is_plain w bs l = nat_lt l w || not (nat_lt l (end_of w bs))

abbrev pub HaveStripes : List Block → Type 0
HaveStripes [] = Unit {0}
HaveStripes (b ∷ bs) = (0 < b.stripes) × HaveStripes bs

abbrev pub shifted : ℕ → List ℕ → List ℕ
shifted f [] = []
shifted f (i ∷ is) = (f + i) ∷ shifted f is

-- A call on a collection, and what it answers; none, if the collection isn't there or is of another kind.
pub record CollectionCall (V : Type 0) : Type 0 where
  pub collection : ℕ
  pub op : Op V

pub record CallWithOutcome (V : Type 0) : Type 0 where
  pub asked : CollectionCall V
  pub outcome : Option (Outcome V)

module _ {V : Type 0} where
  -- a collection that shows nothing
  abbrev pub blank : Block → Shown V
  blank b = whole b.stripes b.kind (λ i. OfMap empty)

  -- the collection whose parts stand from location f on
  abbrev pub seen : Block → ℕ → (ℕ → Shown V) → Shown V
  seen b f v = whole b.stripes b.kind (λ i. v (f + i))

  abbrev pub answer : Option Block → ℕ → (ℕ → Shown V) → Op V → Option (Outcome V)
  answer (Some b) f v op = outcome_of op (seen b f v)
  answer None f v op = None

  abbrev pub reads_in : Option Block → ℕ → Option (Outcome V) → List ℕ
  reads_in (Some b) f (Some o) = shifted f (reads_of b.stripes o (blank b))
  reads_in b f o = []

  abbrev pub writes_in : Option Block → ℕ → Option (Outcome V) → List ℕ
  writes_in (Some b) f (Some o) = shifted f (writes_of b.stripes o (blank b))
  writes_in b f o = []

  -- the part of a written location is that of the collection after the changes
  abbrev pub changed : Option Block → ℕ → Option (Outcome V) → (ℕ → Shown V) → ℕ → Shown V
  changed (Some b) f (Some o) v l =
      if has (shifted f (writes_of b.stripes o (blank b))) l then part b.stripes (l - f) (after (changes_of o (blank b)) (seen b f v))
      else v l
  changed b f o v l = v l

  -- the content of w words and these blocks
  abbrev pub content : ℕ → List Block → Content (Shown V) (CollectionCall V) (CallWithOutcome V)
  content w bs = record {
    plain = is_plain w bs;
    home = home_of w bs;
    outcome = λ v a. record { asked = a; outcome = answer (block_of bs a.collection) (first_of w bs a.collection) v a.op };
    op_of = λ o. o.asked;
    reads = λ o. reads_in (block_of bs o.asked.collection) (first_of w bs o.asked.collection) o.outcome;
    writes = λ o. writes_in (block_of bs o.asked.collection) (first_of w bs o.asked.collection) o.outcome;
    change = λ o. changed (block_of bs o.asked.collection) (first_of w bs o.asked.collection) o.outcome;
  }
