-- What a transaction sees of a collection, and what it is going to change in it.
use Rattle.std.specs.Prelude.{◌≡◌, ℕ, ◌≤◌, ◌+◌, List, Option, None, Some, length, ⊤}
use Rattle.conflict.specs.declared.change.Change.{Change}
use Rattle.conflict.specs.declared.outcome.Outcome.{Outcome}
use Rattle.replay_log.specs.declared.base.Base.{Base}
use Rattle.replay_log.specs.Base.{IsPreparedFor, Shown, after, changes_of, shown_of, stripes_of, writes_of}
use Rattle.replay_log.specs.Log.{LogView}

-- what is ready to be appended by the next acceptance
pub record Ready (V : Type 0) : Type 0 where
  pub changes : List (Change V)
  pub locations : List ℕ

pub record ShadowView (V : Type 0) : Type 0 where
  pub base : Base V  -- the copy, with the accepted changes
  pub changes : List (Change V)  -- the accepted changes, in order
  pub locations : List ℕ  -- the locations with which they were accepted
  pub ready : Option (Ready V)

module _ {V : Type 0} where
  -- what an outcome changes and writes there is ready
  abbrev pub IsReadyFor : Outcome V → ShadowView V → Type 0
  IsReadyFor outcome s =
      s.ready ≡ Some (record {
        changes = changes_of outcome (shown_of s.base);
        locations = writes_of (stripes_of s.base) outcome (shown_of s.base);
      })

  -- the accepted changes, made on the collection that was copied, give what the shadow shows
  abbrev pub IsFolded : Shown V → List (Change V) → Shown V → Type 0
  IsFolded copied changes shown = shown ≡ after changes copied

  -- what is ready is so twice, and there is room for it
  abbrev pub IsKept : Base V → LogView V → (own logged : List (Change V)) → Option (List ℕ) → Type 0
  IsKept b log own logged None = ⊤
  IsKept b log own logged (Some written) =
      (own ≡ logged) × IsPreparedFor own b × (length logged ≤ log.room) × (length log.locations + length written ≤ log.places)
