-- What an event makes of a world with the actors 1 to 64, and what a list of them leads to.
use Rattle.std.specs.Prelude.{◌≡◌, ℕ, ◌+◌, ◌<◌, Bool, true, false, if◌then◌else◌, List, [], ◌∷◌, Option, Some, None, slice_get}
use Rattle.step_world.specs.declared.opening.TheConstants.{ACTORS}
use Rattle.seq_model.specs.declared.event.Event.{Event}
use Rattle.seq_model.specs.declared.event.Event.TheVariants.{Ask, Step, Starve}
use Rattle.seq_model.specs.declared.event.Notice.{Notice}
use Rattle.seq_model.specs.declared.event.Notice.TheVariants.{Refused}
use Rattle.seq_model.specs.declared.refusal.Refusal.TheVariants.{NoSuch}
use Rattle.seq_model.specs.Contents.{Contents}
use Rattle.step_core.specs.Shown.{is_actor}
use Rattle.replay_log.specs.WorldProgress.{whose}
use Rattle.replay_log.specs.Worlds.{After, World, Stage, Copying, Ready, Closing, Leaving, happens}
use Rattle.tx_actor.specs.Running.{stage_of}
use Rattle.tx_actor.specs.declared.actor.TxActor.{TxActor}
use Rattle.step_world.specs.declared.parts.Parts.{Parts}
use Rattle.step_world.specs.Parts.{IsWorld}
use Rattle.step_world.specs.Reached.{IsReached}

-- the actor of this number stands at this place; none does, where it is not one of the actors
abbrev pub IsPositionOf : ℕ → Option ℕ → Type 0
IsPositionOf a None = is_actor a ≡ false
IsPositionOf a (Some i) = (a ≡ i + 1) × (is_actor a ≡ true) × (i < ACTORS)

module _ {V : Type 0} where
  -- an event of another actor changes nothing
  abbrev pub fed : World V → Event V → After V
  fed w e = if is_actor (whose e) then happens w e else (w, Refused (whose e) NoSuch)

  abbrev pub fed_all : World V → List (Event V) → World V
  fed_all w [] = w
  fed_all w (e ∷ es) = fed_all (fed w e).0 es

  -- In every world that events have reached and of which c are the parts, d are the parts of what the event leaves, and its answer is n.
  pub record Feeds (c : Parts V) (e : Event V) (d : Parts V) (n : Notice V) : Type 0 where
    pub parts : (opening : Contents V) (w : World V) → IsReached opening w → IsWorld c w → IsWorld d (fed w e).0
    pub told : (opening : Contents V) (w : World V) → IsReached opening w → IsWorld c w → n ≡ (fed w e).1

  -- A step at this stage takes memory: a call copies, a commit is recorded, or an aborted transaction is.
  abbrev pub allocates_at : Stage V → Bool
  allocates_at (Copying asked) = true
  allocates_at (Ready ks) = true
  allocates_at Closing = true
  allocates_at Leaving = true
  allocates_at stage = false

  -- so does the next step of the actor at this place
  abbrev pub MayAllocate : Parts V → ℕ → Type 0
  MayAllocate c i = (r : TxActor V) → slice_get c.actors.items i ≡ Some r → allocates_at (stage_of r.stage) ≡ true

  -- The event takes no memory: by it an allocation fails in a request, or it is a step at a stage that takes none. Each step of a half-done
  -- commit is such a one.
  abbrev pub AllocatesNothing : Parts V → Event V → Type 0
  AllocatesNothing c (Ask a q) = ⊥
  AllocatesNothing c (Step a) =
      (i : ℕ) (r : TxActor V) → a ≡ i + 1 → slice_get c.actors.items i ≡ Some r → allocates_at (stage_of r.stage) ≡ false
  AllocatesNothing c (Starve a) = Unit {0}
