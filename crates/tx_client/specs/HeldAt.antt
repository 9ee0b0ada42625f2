-- What a handle finds in a closed store.
use Rattle.std.specs.Prelude.{◌≡◌, ℕ, List, Some, slice_get}
use Rattle.seq_model.specs.Contents.{Contents}
use Rattle.seq_model.specs.declared.held.Held.{Held}
use Rattle.tx_handles.specs.declared.gates.Gates.{Gates}

module _ {V : Type 0} where
  -- a handle of a store with this number is one of the own store, and its collection holds this
  abbrev pub HeldAt : ℕ → Contents V → ℕ → ℕ → Held V → Type 0
  HeldAt own s store number h = (own ≡ store) × (slice_get s.held number ≡ Some h)

  -- a handle of a store with this number is one of the own store, and this is what all collections hold, and where its own lies
  abbrev pub AreHeld : ℕ → Contents V → ℕ → Gates → List (Held V) → Gates → Type 0
  AreHeld own s store g held lies = (own ≡ store) × (held ≡ s.held) × (lies ≡ g)

  -- and so of a word
  abbrev pub WordAt : ℕ → Contents V → ℕ → ℕ → ℕ → Type 0
  WordAt own s store number w = (own ≡ store) × (slice_get s.words number ≡ Some w)
