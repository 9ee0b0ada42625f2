-- The locations of a call on a collection that is copied, and the editions with which they were copied.
use Rattle.std.specs.Prelude.{◌≡◌, ℕ, ◌+◌, ◌<◌, List, [], ◌∷◌, Option, Some, None, length, unwrap_or, slice_get, slice_index, take}
use Rattle.std.specs.FinMap as map
use Rattle.tx_sets.specs.Entries.{Entries}
use Rattle.conflict.specs.declared.outcome.Outcome.{Outcome}
use Rattle.replay_log.specs.declared.base.Base.{Base}
use Rattle.replay_log.specs.Base.{editions_of, locations_of, reads_of, shown_of, stripes_of, writes_of}
use Rattle.actor_parts.specs.declared.copies.PrivateCopy.{PrivateCopy}
use Rattle.actor_parts.specs.declared.copies.PrivateCopy.TheVariants.{Keys, Whole}
use Rattle.actor_parts.specs.declared.copies.CopyOfCollection.{CopyOfCollection}
use Rattle.actor_parts.specs.CopyList.{copy_of}

module _ {V : Type 0} where
  -- a collection of its kind and stripes
  abbrev pub base_in : PrivateCopy V → Base V
  base_in (Keys m es) = m.blank
  base_in (Whole s) = s.base

  -- how many locations the collection has
  abbrev pub location_count : PrivateCopy V → ℕ
  location_count c = locations_of (stripes_of (base_in c)) (shown_of (base_in c))

  -- the locations that an outcome reads, and those that it writes
  abbrev pub reads_in : PrivateCopy V → Outcome V → List ℕ
  reads_in c o = reads_of (stripes_of (base_in c)) o (shown_of (base_in c))

  abbrev pub writes_in : PrivateCopy V → Outcome V → List ℕ
  writes_in c o = writes_of (stripes_of (base_in c)) o (shown_of (base_in c))

  -- the edition with which a location was copied
  abbrev pub known_edition : PrivateCopy V → ℕ → ℕ
  known_edition (Keys m es) l = unwrap_or (map.get es.contents l) 0
  known_edition (Whole s) l = slice_index (editions_of s.base) l

  -- locations of a collection that begins at location f, with these editions
  abbrev pub with_known : PrivateCopy V → (f : ℕ) → List ℕ → Entries
  with_known c f [] = []
  with_known c f (l ∷ ls) = (f + l, known_edition c l) ∷ with_known c f ls

  -- the copy of collection k stands at this place; none, if there is none
  abbrev pub IsPositionOf : List (CopyOfCollection V) → ℕ → Option ℕ → Type 0
  IsPositionOf cs k None = copy_of cs k ≡ None
  IsPositionOf cs k (Some i) =
      (i < length cs) × (copy_of (take i cs) k ≡ None) × ((c : CopyOfCollection V) → slice_get cs i ≡ Some c → c.collection ≡ k)
