-- Tries on a gate.
use Rattle.std.specs.Prelude.{◌≡◌, ◌≢◌, ℕ, ◌+◌, List, [], ◌∷◌, ◌++◌, Option, Some, None, ◌==◌, if◌then◌else◌}
use Rattle.seq_model.specs.declared.event.Event.{Event}
use Rattle.seq_model.specs.declared.event.Event.TheVariants.{Step}
use Rattle.replay_log.specs.Worlds.{World, Stage, Trying, Gating, happens, run}

module _ {V : Type 0} where
  -- the gate that is tried at this stage, and how many tries are left after this one
  abbrev pub tried_at : Stage V → Option (ℕ × ℕ)
  tried_at (Trying asked tries) = Some (asked.collection, tries)
  tried_at (Gating got (k ∷ ks) tries) = Some (k, tries)
  tried_at stage = None

  -- where this is a step of a, it tries the gate of k in vain: another holds it
  abbrev pub IsVain : (a k : ℕ) → World V → Event V → Type 0
  IsVain a k w (Step b) =
      b ≡ a → ((n : ℕ) × (tried_at (w.seats a).stage ≡ Some (k, n))) × ((c : ℕ) × (w.boosted.gates k ≡ Some c) × (c ≢ a))
  IsVain a k w e = Unit {0}

  abbrev pub AllVain : (a k : ℕ) → World V → List (Event V) → Type 0
  AllVain a k w [] = Unit {0}
  AllVain a k w (e ∷ es) = IsVain a k w e × AllVain a k (happens w e).0 es

  -- how many of these events are steps of a
  abbrev pub steps_of : ℕ → List (Event V) → ℕ
  steps_of a [] = 0
  steps_of a (Step b ∷ es) = (if b == a then 1 else 0) + steps_of a es
  steps_of a (e ∷ es) = steps_of a es

  -- the last m steps that a took in these events, from w, tried the gate of k in vain
  pub record InVain (w : World V) (events : List (Event V)) (a k m : ℕ) : Type 0 where
    pub before : List (Event V)
    pub last : List (Event V)
    pub split : events ≡ before ++ last
    pub vain : AllVain a k (run w before) last
    pub count : steps_of a last ≡ m
