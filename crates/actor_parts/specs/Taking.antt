-- What a call touches joins what there is of collections, and is taken back where the call is not made.
use Rattle.std.specs.Prelude.{◌≡◌, ℕ, ◌<◌, ◌≤◌, ◌++◌, Bool, false, List, [], ◌∷◌, Option, Some, None, take, length, slice_get, slice_set}
use Rattle.seq_model.specs.declared.call.Op.{Op}
use Rattle.conflict.specs.declared.outcome.Outcome.{Outcome}
use Rattle.replay_log.specs.declared.base.Base.{Base}
use Rattle.replay_log.specs.declared.touch.Touch.{Touch}
use Rattle.replay_log.specs.declared.touch.TouchedKey.TheVariants as touched
use Rattle.replay_log.specs.Base.{OfMap, shown_of}
use Rattle.replay_log.specs.Touches.{summed_by}
use Rattle.std.specs.FinMap.{FinMap, get}
use Rattle.std.specs.Ordering.{nat_cmp}
use Rattle.replay_log.specs.Contents.{shifted}
use Rattle.replay_log.specs.Parts.{kind_of}
use Rattle.replay_log.specs.Worlds as worlds
use Rattle.step_core.specs.Shown as words
use Rattle.step_core.specs.declared.actor.Actor.{Actor}
use Rattle.actor_parts.specs.declared.copies.PrivateCopy.{PrivateCopy}
use Rattle.actor_parts.specs.declared.copies.CopyOfCollection.{CopyOfCollection}
use Rattle.actor_parts.specs.declared.copies.BaseExcerpt.{BaseExcerpt}
use Rattle.actor_parts.specs.CopyAtGate.{IsTaken}
use Rattle.actor_parts.specs.PrivateCopy.{IsForgotten, IsFound, holds_of}
use Rattle.actor_parts.specs.Sizes.{base_reads, base_writes}
use Rattle.actor_parts.specs.Footprints.{IsPositionOf, base_in}
use Rattle.actor_parts.specs.CopyList.{AreKept, HaveSame, copy_of}

module _ {V : Type 0} where
  -- whether the locations of a call on the base itself fit the sets of a transaction; the collection begins at location f
  abbrev pub fits_base : Actor → Base V → (f : ℕ) → Outcome V → Bool
  fits_base y base f o =
      worlds.has_room (words.actor_of y) (shifted f (base_reads base o)) (shifted f (base_writes base o))

  -- a key that was touched with this value, if it has one, and the edition e of its location l
  abbrev pub key_touch : (k : ℕ) → Option V → (l e : ℕ) → Touch V
  key_touch k value l e = record { editions = (l, e) ∷ []; held = touched.Entry k value }

  -- the call touches this key of every map
  abbrev pub IsOnKey : ℕ → Op V → Type 0
  IsOnKey k op = (n : ℕ) (m : FinMap nat_cmp V) → summed_by n op (OfMap m) ≡ Some (touched.Entry k (get m k))

  -- the copy of a collection with this in place of what there was
  abbrev pub copy_with : ℕ → PrivateCopy V → CopyOfCollection V
  copy_with k c = record { collection = k; copied = c }

  -- what was found is learnt
  abbrev pub IsAdded : BaseExcerpt V → PrivateCopy V → PrivateCopy V → Type 0
  IsAdded x c d = (n : ℕ) → IsTaken n x (Some c) d

  -- a first copy of what was found of collection k, in n stripes, joins the others
  abbrev pub IsPushed : (n k : ℕ) → BaseExcerpt V → (before now : List (CopyOfCollection V)) → Type 0
  IsPushed n k x before now = (c : PrivateCopy V) × IsTaken n x None c × (now ≡ before ++ copy_with k c ∷ [])

  -- The copies with c for collection k, which stands at place i: in the place of what there was, or after the others.
  abbrev pub IsPutAt : (k : ℕ) (c : PrivateCopy V) (i : ℕ) (before now : List (CopyOfCollection V)) → Option (PrivateCopy V) → Type 0
  IsPutAt k c i before now None = (i ≡ length before) × (now ≡ before ++ copy_with k c ∷ [])
  IsPutAt k c i before now (Some d) = IsPositionOf before k (Some i) × (now ≡ slice_set before i (copy_with k c))

  -- The copy at place i forgot what the call touches, and the others are as they were.
  pub record Forgets (i : ℕ) (op : Op V) (before now : List (CopyOfCollection V)) : Type 0 where
    pub copy : CopyOfCollection V
    pub copied : PrivateCopy V
    pub at : slice_get before i ≡ Some copy
    pub forgot : IsForgotten op copy.copied copied
    pub is : now ≡ slice_set before i (copy_with copy.collection copied)

  -- What is at place i forgets what the call touches where it is among the first n, and goes where it is not.
  abbrev pub TakesBack : (n i : ℕ) (op : Op V) (before now : List (CopyOfCollection V)) → Type 0
  TakesBack n i op before now = (i < n → Forgets i op before now) × (n ≤ i → now ≡ take n before)

-- What was found of collection k, in n stripes, is taken: there is a copy of it at place i.
pub record IsTakenAt {V : Type 0} (n k : ℕ) (x : BaseExcerpt V) (i : ℕ) (before now : List (CopyOfCollection V)) : Type 0 where
  pub copy : PrivateCopy V
  pub taken : IsTaken n x (copy_of before k) copy
  pub put : IsPutAt k copy i before now (copy_of before k)

-- What was taken for a call that is not made, was made ready, and is taken back leaves the pieces that there were.
abbrev pub TakenBack : Type 0 → Type 0
TakenBack V =
    (n k i : ℕ) (op : Op V) (base : Base V) (x : BaseExcerpt V) (before now ready after : List (CopyOfCollection V)) → IsFound base op x
    → ((c : PrivateCopy V) → copy_of before k ≡ Some c → kind_of (shown_of (base_in c)) ≡ kind_of (shown_of base))
    → holds_of (copy_of before k) op ≡ false → IsTakenAt n k x i before now → AreKept now ready
    → TakesBack (length before) i op ready after → HaveSame before after

-- What the call touches of the base of collection k, in n stripes, is taken: there is a copy of it at place i.
pub record IsTakenFrom {V : Type 0} (n k : ℕ) (base : Base V) (op : Op V) (i : ℕ) (before now : List (CopyOfCollection V)) : Type 0 where
  pub found : BaseExcerpt V
  pub is : IsFound base op found
  pub at : IsTakenAt n k found i before now
