-- What a transaction has of one collection, and what that is of its shadow in a world.
use Rattle.std.specs.Prelude.{◌≡◌, ℕ, ◌+◌, ◌<◌, ◌++◌, Bool, true, false, List, Option, Some, None, is_some, slice_get}
use Rattle.std.specs.FinMap as map
use Rattle.seq_model.specs.declared.call.Op.{Op}
use Rattle.conflict.specs.declared.change.Change.{Change}
use Rattle.conflict.specs.declared.outcome.Outcome.{Outcome}
use Rattle.replay_log.specs.declared.base.Base.{Base}
use Rattle.replay_log.specs.declared.touch.Touch.{Touch}
use Rattle.seq_model.specs.Entries.{inserts}
use Rattle.replay_log.specs.Base.{Shown, OfMap, OfBag, after, changes_of, editions_of, outcome_of, shown_of, stripes_of, writes_of}
use Rattle.replay_log.specs.Parts.{Kind, PqKind, QueueKind, kind_of, part}
use Rattle.replay_log.specs.Pieces as pieces
use Rattle.replay_log.specs.Pieces.{Piece, is_piece}
use Rattle.replay_log.specs.Touches.{editions_at, summed_by, touched_locations}
use Rattle.replay_log.specs.Contents.{CallWithOutcome, Block, size}
use Rattle.tx_machine.specs.Boosted.{Shadow as Part}
use Rattle.actor_laws.specs.Bases.{log_changes, log_locations}
use Rattle.shadow.specs.Memo as memo
use Rattle.shadow.specs.Memo.{MemoView, IsCopyBy, answer_with, copies_kept, copies_without, entries_kept, entries_without, grown_kept}
use Rattle.shadow.specs.Memo.{has_key, holds, shrunk_kept, total_without, with_count, with_entry, with_total}
use Rattle.shadow.specs.Shadow as shadow
use Rattle.shadow.specs.Shadow.{IsFolded}
use Rattle.actor_parts.specs.declared.copies.PrivateCopy.{PrivateCopy}
use Rattle.actor_parts.specs.declared.copies.BaseExcerpt.{BaseExcerpt}
use Rattle.actor_parts.specs.declared.copies.BaseExcerpt.TheVariants as found
use Rattle.actor_parts.specs.declared.copies.PrivateCopy.TheVariants.{Keys, Whole}

-- a priority queue and a queue are copied whole
abbrev pub is_copied_whole : Kind → Bool
is_copied_whole PqKind = true
is_copied_whole QueueKind = true
is_copied_whole k = false

module _ {V : Type 0} where
  -- it has what the call touches, and what that answers after the accepted calls
  abbrev pub holds_call : PrivateCopy V → Op V → Bool
  holds_call (Keys m es) op = holds m op
  holds_call (Whole s) op = true

  -- whether what there is of a collection has what the call touches; where there is nothing, it has not
  abbrev pub holds_of : Option (PrivateCopy V) → Op V → Bool
  holds_of None op = false
  holds_of (Some c) op = holds_call c op

  abbrev pub answer_of : PrivateCopy V → Op V → Option (Outcome V)
  answer_of (Keys m es) op = answer_with (shown_of m.blank) m.entries m.copies m.total m.grown m.shrunk op
  answer_of (Whole s) op = outcome_of op (shown_of s.base)

  -- it has this piece of its collection
  abbrev pub memo_piece : Shown V → MemoView V → Piece → Bool
  memo_piece (OfMap b) m (pieces.Entry k) = has_key m.entries k
  memo_piece (OfMap b) m pieces.Counts = is_some m.total
  memo_piece (OfBag b) m (pieces.Entry x) = has_key m.copies x
  memo_piece s m p = false

  abbrev pub has_piece : PrivateCopy V → Piece → Bool
  has_piece (Keys m es) p = memo_piece (shown_of m.blank) m p
  has_piece (Whole s) p = is_piece pieces.Whole p

  -- the log of the accepted calls
  abbrev pub changes_in : PrivateCopy V → List (Change V)
  changes_in (Keys m es) = m.changes
  changes_in (Whole s) = s.changes

  abbrev pub locations_in : PrivateCopy V → List ℕ
  locations_in (Keys m es) = m.locations
  locations_in (Whole s) = s.locations

  abbrev pub IsReady : Outcome V → PrivateCopy V → Type 0
  IsReady o (Keys m es) = memo.IsReadyFor o m
  IsReady o (Whole s) = shadow.IsReadyFor o s

  -- the same, but for what is ready
  abbrev pub IsKept : PrivateCopy V → PrivateCopy V → Type 0
  IsKept (Keys m es) (Keys n fs) =
      (n.blank ≡ m.blank) × (n.entries ≡ m.entries) × (n.copies ≡ m.copies) × (n.total ≡ m.total) × (n.grown ≡ m.grown)
      × (n.shrunk ≡ m.shrunk) × (n.changes ≡ m.changes) × (n.locations ≡ m.locations) × (fs.contents ≡ es.contents)
  IsKept (Whole s) (Whole t) =
      (shown_of t.base ≡ shown_of s.base) × (stripes_of t.base ≡ stripes_of s.base) × (editions_of t.base ≡ editions_of s.base)
      × (t.changes ≡ s.changes) × (t.locations ≡ s.locations)
  IsKept c d = ⊥

  -- what an accepted outcome makes of it
  abbrev pub IsAccepted : Outcome V → PrivateCopy V → PrivateCopy V → Type 0
  IsAccepted o (Keys m es) (Keys n fs) =
      let b = shown_of m.blank in
      (n.blank ≡ m.blank) × (n.entries ≡ entries_kept b o m.entries) × (n.copies ≡ copies_kept b o m.copies) × (n.total ≡ m.total)
      × (n.grown ≡ grown_kept b o m.grown) × (n.shrunk ≡ shrunk_kept b o m.shrunk) × (n.changes ≡ m.changes ++ changes_of o b)
      × (n.locations ≡ m.locations ++ writes_of (stripes_of m.blank) o b) × (fs.contents ≡ es.contents)
  IsAccepted o (Whole s) (Whole t) =
      let b = shown_of s.base in
      (shown_of t.base ≡ after (changes_of o b) b) × (stripes_of t.base ≡ stripes_of s.base) × (editions_of t.base ≡ editions_of s.base)
      × (t.changes ≡ s.changes ++ changes_of o b) × (t.locations ≡ s.locations ++ writes_of (stripes_of s.base) o b)
  IsAccepted o c d = ⊥

  -- the outcome of a call on collection k
  abbrev pub answered_on : ℕ → Op V → Outcome V → CallWithOutcome V
  answered_on k op o = record { asked = record { collection = k; op = op }; outcome = Some o }

  -- with what was touched of a map or a multiset
  abbrev pub IsLearnt : Touch V → PrivateCopy V → PrivateCopy V → Type 0
  IsLearnt t (Keys m es) (Keys n fs) =
      (n.blank ≡ m.blank) × (n.entries ≡ with_entry t.held m.entries) × (n.copies ≡ with_count t.held m.copies)
      × (n.total ≡ with_total t.held m.total) × (n.grown ≡ m.grown) × (n.shrunk ≡ m.shrunk) × (n.changes ≡ m.changes)
      × (n.locations ≡ m.locations) × (fs.contents ≡ inserts es.contents t.editions)
  IsLearnt t (Whole s) d = d ≡ Whole s
  IsLearnt t c d = ⊥

  -- without what the call touches
  abbrev pub IsForgotten : Op V → PrivateCopy V → PrivateCopy V → Type 0
  IsForgotten op (Keys m es) (Keys n fs) =
      (n.blank ≡ m.blank) × (n.entries ≡ entries_without op m.entries) × (n.copies ≡ copies_without op m.copies)
      × (n.total ≡ total_without op m.total) × (n.grown ≡ m.grown) × (n.shrunk ≡ m.shrunk) × (n.changes ≡ m.changes)
      × (n.locations ≡ m.locations) × (fs.contents ≡ es.contents)
  IsForgotten op (Whole s) d = d ≡ Whole s
  IsForgotten op c d = ⊥

  -- what a call touches of a base
  abbrev pub IsFound : Base V → Op V → BaseExcerpt V → Type 0
  IsFound base op (found.Keys t) =
      (summed_by (stripes_of base) op (shown_of base) ≡ Some t.held)
      × (t.editions ≡ editions_at (touched_locations (stripes_of base) t.held) (editions_of base))
  IsFound base op (found.Whole c) =
      (shown_of c.base ≡ shown_of base) × (stripes_of c.base ≡ stripes_of base) × (editions_of c.base ≡ editions_of base)
      × (is_copied_whole (kind_of (shown_of base)) ≡ true)

  -- ---- of a collection s in the block b, with the log of its own accepted calls
  abbrev pub IsOf : Block → Shown V → List (Change V) → List ℕ → PrivateCopy V → Type 0
  IsOf b s changes locations (Keys m es) =
      (kind_of (shown_of m.blank) ≡ b.kind) × (stripes_of m.blank ≡ b.stripes) × (m.changes ≡ changes) × (m.locations ≡ locations)
      × IsCopyBy (shown_of m.blank) m.entries m.copies m.total m.grown m.shrunk m.changes s
  IsOf b s changes locations (Whole t) =
      (kind_of (shown_of t.base) ≡ b.kind) × (stripes_of t.base ≡ b.stripes) × (t.changes ≡ changes) × (t.locations ≡ locations)
      × IsFolded s t.changes (shown_of t.base)

  -- the parts of a block whose first location is f are those of s
  abbrev pub ShowParts : Block → ℕ → (ℕ → Shown V) → Shown V → Type 0
  ShowParts b f parts s = (kind_of s ≡ b.kind) × ((i : ℕ) → i < size b → parts (f + i) ≡ part b.stripes i s)

  -- the edition with which a location of the collection was copied
  abbrev pub edition_at : PrivateCopy V → ℕ → Option ℕ
  edition_at (Keys m es) i = map.get es.contents i
  edition_at (Whole t) i = slice_get (editions_of t.base) i

  abbrev pub HasEditions : Block → (f : ℕ) → Part (Shown V) (CallWithOutcome V) → PrivateCopy V → Type 0
  HasEditions b f x c = (i e : ℕ) → i < size b → edition_at c i ≡ Some e → (x.copied (f + i) ≡ true) × (x.editions (f + i) ≡ e)

  -- it is what an actor's shadow has of collection k, which stands in block b from location f on
  abbrev pub IsCopied : Block → (f k : ℕ) → Part (Shown V) (CallWithOutcome V) → PrivateCopy V → Type 0
  IsCopied b f k x c =
      ((s : Shown V) × ShowParts b f x.parts s × IsOf b s (log_changes k b x.outcomes) (log_locations k b x.outcomes) c)
      × HasEditions b f x c
