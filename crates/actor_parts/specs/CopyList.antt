-- What a transaction has of each collection.
use Rattle.std.specs.Prelude.{◌≡◌, ℕ, Bool, false, ◌==◌, List, [], ◌∷◌, Option, Some, None, if◌then◌else◌}
use Rattle.replay_log.specs.Pieces as pieces
use Rattle.actor_parts.specs.PrivateCopy as copies
use Rattle.actor_parts.specs.declared.copies.PrivateCopy.{PrivateCopy}
use Rattle.actor_parts.specs.declared.copies.CopyOfCollection.{CopyOfCollection}

module _ {V : Type 0} where
  -- what there is of collection k, and whether piece q is among that
  abbrev pub copy_of : List (CopyOfCollection V) → ℕ → Option (PrivateCopy V)
  copy_of [] k = None
  copy_of (c ∷ cs) k = if k == c.collection then Some c.copied else copy_of cs k

  abbrev pub has_piece : Option (PrivateCopy V) → pieces.Piece → Bool
  has_piece None q = false
  has_piece (Some c) q = copies.has_piece c q

  -- the copies are as they were, but for what is ready in them
  abbrev pub AreKept : List (CopyOfCollection V) → List (CopyOfCollection V) → Type 0
  AreKept [] [] = Unit {0}
  AreKept (c ∷ cs) (d ∷ ds) = (d.collection ≡ c.collection) × copies.IsKept c.copied d.copied × AreKept cs ds
  AreKept cs ds = ⊥

  -- and they have the same pieces
  abbrev pub HaveSame : List (CopyOfCollection V) → List (CopyOfCollection V) → Type 0
  HaveSame cs ds = (k : ℕ) (q : pieces.Piece) → has_piece (copy_of ds k) q ≡ has_piece (copy_of cs k) q
