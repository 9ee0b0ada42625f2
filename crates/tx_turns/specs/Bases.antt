-- The bases that a seat has out: those of the gates that its actor holds.
use Rattle.std.specs.Prelude.{◌≡◌, ◌≢◌, ℕ, List, [], ◌∷◌, None, Some, slice_get, take}
use Rattle.replay_log.specs.declared.base.Base.{Base}
use Rattle.replay_log.specs.Base.{IsPreparedFor, editions_of, shown_of, stripes_of}
use Rattle.replay_log.specs.Seats.{World}
use Rattle.actor_laws.specs.Bases.{ShowsBase}
use Rattle.actor_parts.specs.declared.copies.CopyOfCollection.{CopyOfCollection}
use Rattle.actor_parts.specs.CopyList.{copy_of}
use Rattle.actor_parts.specs.Logs.{changes_had}
use Rattle.tx_actor.specs.declared.actor.Stage.{Stage}
use Rattle.tx_actor.specs.declared.actor.Stage.TheVariants as stage
use Rattle.shared_table.specs.Shown.{IsBaseAt, Slot}

module _ {V : Type 0} where
  -- the collections whose gates an actor holds at this stage, in the order in which it took them
  abbrev pub gates_at : Stage V → List ℕ
  gates_at (stage.Copying asked) = asked.collection ∷ []
  gates_at (stage.Gating homes got tries) = take got homes.items
  gates_at (stage.Ready homes) = homes.items
  gates_at (stage.Storing homes) = homes.items
  gates_at (stage.Homing homes) = homes.items
  gates_at (stage.Returning homes) = homes.items
  gates_at (stage.ReturningOne k) = k ∷ []
  gates_at s = []

  -- their slots, of which the bases were taken
  abbrev pub slots_of : List ℕ → List (ℕ × Slot V)
  slots_of [] = []
  slots_of (k ∷ ks) = (k, None) ∷ slots_of ks

  -- b is the base of collection k in the world u, at a table that opened with o
  abbrev pub IsBaseIn : World V → World V → ℕ → Base V → Type 0
  IsBaseIn o u k b = IsBaseAt o.blocks k b × ShowsBase o.words o.blocks u k b

  -- and these are those of these collections, one after the other
  abbrev pub AreBases : World V → World V → List ℕ → List (Base V) → Type 0
  AreBases o u [] [] = Unit {0}
  AreBases o u (k ∷ ks) (b ∷ bs) = IsBaseIn o u k b × AreBases o u ks bs
  AreBases o u ks bs = ⊥

  -- the base of k takes the log of the calls on it, among what there is of collections, without memory
  abbrev pub IsPrepared : List (CopyOfCollection V) → ℕ → Base V → Type 0
  IsPrepared cs k b = IsPreparedFor (changes_had (copy_of cs k)) b

  abbrev pub ArePrepared : List (CopyOfCollection V) → List ℕ → List (Base V) → Type 0
  ArePrepared cs [] bs = Unit {0}
  ArePrepared cs (k ∷ ks) [] = ⊥
  ArePrepared cs (k ∷ ks) (b ∷ bs) = IsPrepared cs k b × ArePrepared cs ks bs

  -- from the first value store on they are prepared, as they are put back
  abbrev pub ArePreparedAt : List (CopyOfCollection V) → Stage V → List (Base V) → Type 0
  ArePreparedAt cs (stage.Storing homes) bs = ArePrepared cs homes.items bs
  ArePreparedAt cs (stage.Homing homes) bs = ArePrepared cs homes.items bs
  ArePreparedAt cs s bs = Unit {0}

  -- b holds what d holds
  pub record IsAlike (d b : Base V) : Type 0 where
    pub shown : shown_of b ≡ shown_of d
    pub stripes : stripes_of b ≡ stripes_of d
    pub editions : editions_of b ≡ editions_of d

  -- and so does each of these, one after the other
  abbrev pub AreAlike : (before now : List (Base V)) → Type 0
  AreAlike [] [] = Unit {0}
  AreAlike (d ∷ ds) (b ∷ bs) = IsAlike d b × AreAlike ds bs
  AreAlike ds bs = ⊥

  -- the base at place i is prepared as that of collection k, and the others are as they were
  pub record OneIsPrepared (cs : List (CopyOfCollection V)) (k i : ℕ) (before now : List (Base V)) : Type 0 where
    pub here : (b : Base V) → slice_get now i ≡ Some b → IsPrepared cs k b
    pub others : (j : ℕ) → j ≢ i → slice_get now j ≡ slice_get before j
