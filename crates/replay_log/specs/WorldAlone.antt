-- A transaction beside which no other actor steps.
use Rattle.std.specs.Prelude.{◌≡◌, ◌≢◌, ℕ, List, [], ◌∷◌, None}
use Rattle.tx_machine.specs.Progress as word
use Rattle.seq_model.specs.declared.refusal.Refusal.{Refusal}
use Rattle.seq_model.specs.declared.refusal.Refusal.TheVariants.{Moved, Busy, Stale, GateBusy, Invalid, Memory as OutOfMemory}
use Rattle.seq_model.specs.declared.event.Event.{Event}
use Rattle.seq_model.specs.declared.event.Event.TheVariants.{Ask, Step, Starve}
use Rattle.seq_model.specs.declared.event.Notice.{Notice}
use Rattle.seq_model.specs.declared.event.Notice.TheVariants.{Refused}
use Rattle.replay_log.specs.Worlds.{World}

-- a refusal that another transaction is the cause of
abbrev pub IsConflict : Refusal → Type 0
IsConflict (Moved l word) = Unit {0}
IsConflict (Busy l word) = Unit {0}
IsConflict (Stale l base word) = Unit {0}
IsConflict (GateBusy k) = Unit {0}
IsConflict (Invalid l word) = Unit {0}
IsConflict cause = ⊥

module _ {V : Type 0} where
  -- only a steps; the others may ask, and be out of memory
  abbrev pub IsAlone : ℕ → List (Event V) → Type 0
  IsAlone a [] = Unit {0}
  IsAlone a (Ask b q ∷ es) = IsAlone a es
  IsAlone a (Step b ∷ es) = (b ≡ a) × IsAlone a es
  IsAlone a (Starve b ∷ es) = IsAlone a es

  -- no lock and no gate is held
  pub record IsFree (w : World V) : Type 0 where
    pub locks : (l : ℕ) → word.IsFree (w.boosted.words.locks l)
    pub gates : (k : ℕ) → w.boosted.gates k ≡ None

  abbrev pub TellsConflict : Notice V → Type 0
  TellsConflict (Refused a cause) = IsConflict cause
  TellsConflict n = ⊥

  -- no allocation of a fails
  abbrev pub IsUnstarved : ℕ → List (Event V) → Type 0
  IsUnstarved a [] = Unit {0}
  IsUnstarved a (Starve b ∷ es) = (b ≢ a) × IsUnstarved a es
  IsUnstarved a (Ask b q ∷ es) = IsUnstarved a es
  IsUnstarved a (Step b ∷ es) = IsUnstarved a es

  abbrev pub TellsMemory : Notice V → Type 0
  TellsMemory (Refused a OutOfMemory) = Unit {0}
  TellsMemory n = ⊥
