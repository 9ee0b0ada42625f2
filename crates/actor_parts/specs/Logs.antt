-- What a commit hands over of a collection: the log of its calls there.
use Rattle.std.specs.Prelude.{◌≡◌, ◌≢◌, ℕ, List, [], Option, Some, None}
use Rattle.conflict.specs.declared.change.Change.{Change}
use Rattle.actor_parts.specs.declared.copies.PrivateCopy.{PrivateCopy}
use Rattle.actor_parts.specs.declared.copies.CopyOfCollection.{CopyOfCollection}
use Rattle.actor_parts.specs.PrivateCopy.{changes_in, locations_in}
use Rattle.actor_parts.specs.CopyList.{copy_of}

module _ {V : Type 0} where
  -- the log of what there is of a collection; without a copy there was no call on it
  abbrev pub changes_had : Option (PrivateCopy V) → List (Change V)
  changes_had None = []
  changes_had (Some c) = changes_in c

  abbrev pub locations_had : Option (PrivateCopy V) → List ℕ
  locations_had None = []
  locations_had (Some c) = locations_in c

  -- what there is of every other collection stands
  abbrev pub OthersStand : ℕ → (before now : List (CopyOfCollection V)) → Type 0
  OthersStand k before now = (j : ℕ) → j ≢ k → copy_of now j ≡ copy_of before j
