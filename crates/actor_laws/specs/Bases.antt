-- The base of a collection in a world, and the log of a transaction's calls on it.
use Rattle.std.specs.Prelude.{◌≡◌, ℕ, ◌-◌, false, List, [], ◌∷◌, ◌++◌, Option, Some, None, length, slice_index, ◌==◌, if◌then◌else◌}
use Rattle.conflict.specs.declared.change.Change.{Change}
use Rattle.conflict.specs.declared.outcome.Outcome.{Outcome}
use Rattle.replay_log.specs.declared.base.Base.{Base}
use Rattle.replay_log.specs.Base.{after, changes_of, editions_of, shown_of, stripes_of, writes_of}
use Rattle.replay_log.specs.Contents.{CallWithOutcome, Block, blank, first_of, home_of, is_plain, size}
use Rattle.replay_log.specs.Log.{AreRaised}
use Rattle.replay_log.specs.Parts.{kind_of, part}
use Rattle.replay_log.specs.Seats.{World}

module _ {V : Type 0} where
  -- a base of this block's kind and shape
  pub record IsBaseOf (b : Block) (base : Base V) : Type 0 where
    pub kind : kind_of (shown_of base) ≡ b.kind
    pub stripes : stripes_of base ≡ b.stripes
    pub wide : length (editions_of base) ≡ size b

  -- it shows the parts and the editions that collection k has in w, in a shape of n words and the blocks bs
  abbrev pub ShowsBase : (n : ℕ) → List Block → World V → (k : ℕ) → Base V → Type 0
  ShowsBase n bs w k base =
      (l : ℕ) → is_plain n bs l ≡ false → home_of n bs l ≡ k
      → (w.boosted.parts l ≡ part (stripes_of base) (l - first_of n bs k) (shown_of base))
      × (w.boosted.editions l ≡ slice_index (editions_of base) (l - first_of n bs k))

  abbrev pub changes_on : Block → Option (Outcome V) → List (Change V)
  changes_on b None = []
  changes_on b (Some o) = changes_of o (blank b)

  abbrev pub writes_on : Block → Option (Outcome V) → List ℕ
  writes_on b None = []
  writes_on b (Some o) = writes_of b.stripes o (blank b)

  -- what the calls of a transaction on collection k push into its log, one call after another: their changes, and the locations that
  -- they write
  abbrev pub log_changes : (k : ℕ) → Block → List (CallWithOutcome V) → List (Change V)
  log_changes k b [] = []
  log_changes k b (o ∷ os) = (if o.asked.collection == k then changes_on b o.outcome else []) ++ log_changes k b os

  abbrev pub log_locations : (k : ℕ) → Block → List (CallWithOutcome V) → List ℕ
  log_locations k b [] = []
  log_locations k b (o ∷ os) = (if o.asked.collection == k then writes_on b o.outcome else []) ++ log_locations k b os

  -- a log of these changes and locations was folded into a base
  pub record IsFolded (changes : List (Change V)) (locations : List ℕ) (before now : Base V) : Type 0 where
    pub shown : shown_of now ≡ after changes (shown_of before)
    pub stripes : stripes_of now ≡ stripes_of before
    pub editions : AreRaised locations (editions_of before) (editions_of now)
