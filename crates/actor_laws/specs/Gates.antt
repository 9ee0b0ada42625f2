-- What a step on a gate makes of it and of its base.
use Rattle.std.specs.Prelude.{◌≡◌, ℕ, ◌+◌, Bool, Option, Some, None, if◌then◌else◌}
use Rattle.tx_sets.specs.Entries.{lookup}
use Rattle.tx_machine.specs.Boosted.{TakeGate, PutGate, GoHome, changes, is_none}
use Rattle.replay_log.specs.Contents.{content, home_of}
use Rattle.replay_log.specs.Seats.{World, actor_of}
use Rattle.actor_laws.specs.Clock.{Grows}
use Rattle.actor_laws.specs.Steps.{atomic_action}

module _ {V : Type 0} where
  -- the gate of k is tried next
  abbrev pub Tries : World V → ℕ → ℕ → Type 0
  Tries v a k = atomic_action a v (v.seats a).stage ≡ Some (TakeGate a k)

  -- the gate of k is put back next, its base as it was
  abbrev pub Puts : World V → ℕ → ℕ → Type 0
  Puts v a k = (which : ℕ → Bool) × (atomic_action a v (v.seats a).stage ≡ Some (PutGate a k which))

  -- the base of k is put back next
  abbrev pub GoesHome : World V → ℕ → ℕ → Type 0
  GoesHome v a k = atomic_action a v (v.seats a).stage ≡ Some (GoHome a k)

  -- bases and clock stand, and the gate of k is this now
  pub record Gated (a k : ℕ) (v u : World V) (now : Option ℕ) : Type 0 where
    pub gate : u.boosted.gates k ≡ now
    pub parts : (l : ℕ) → u.boosted.parts l ≡ v.boosted.parts l
    pub editions : (l : ℕ) → u.boosted.editions l ≡ v.boosted.editions l
    pub grows : Grows a v u

  -- the base of k was put back with the changes of a's transaction, the edition of each written location one higher, and the gate is free
  pub record Homed (a k : ℕ) (v u : World V) : Type 0 where
    pub gate : u.boosted.gates k ≡ None
    pub parts : (l : ℕ) → home_of v.words v.blocks l ≡ k → u.boosted.parts l ≡ changes (content v.words v.blocks)
        (v.boosted.shadows a).outcomes v.boosted.parts l
    pub editions : (l : ℕ) → home_of v.words v.blocks l ≡ k
        → u.boosted.editions l ≡ (if is_none (lookup (actor_of v a).writes l) then v.boosted.editions l else v.boosted.editions l + 1)
    pub grows : Grows a v u
