-- What an actor has of its own in a world, and what its events find there.
use Rattle.std.specs.Prelude.{◌≡◌, ℕ, Option, Some, None}
use Rattle.seq_model.specs.declared.event.Event.{Event}
use Rattle.seq_model.specs.declared.event.Event.TheVariants.{Ask, Step, Starve}
use Rattle.tx_machine.specs.Boosted.{Action}
use Rattle.replay_log.specs.Contents.{CollectionCall, CallWithOutcome, content}
use Rattle.replay_log.specs.Seats.{World, After, Stage, Copying}
use Rattle.replay_log.specs.WorldCalls.{with_editions}
use Rattle.actor_laws.specs.Machine.{AlikeBelow, FindsBelow}
use Rattle.actor_laws.specs.Steps.{atomic_action, ready_at}

module _ {V : Type 0} where
  -- Two worlds of one shape are alike to actor a: its seat is the same, and what it has in the machine.
  pub record Alike (a : ℕ) (v u : World V) : Type 0 where
    pub words : v.words ≡ u.words
    pub blocks : v.blocks ≡ u.blocks
    pub seat : v.seats a ≡ u.seats a
    pub boosted : AlikeBelow a v.boosted u.boosted

  -- and the same is answered
  abbrev pub SameAfter : ℕ → After V → After V → Type 0
  SameAfter a p q = Alike a p.0 q.0 × (p.1 ≡ q.1)

  abbrev pub FindsBy : ℕ → World V → World V → Option (Action (CollectionCall V)) → Type 0
  FindsBy a v u None = Unit {0}
  FindsBy a v u (Some action) = FindsBelow (content v.words v.blocks) a v.boosted u.boosted action

  -- the editions of what a call reads are the same
  abbrev pub SameEditions : World V → World V → CollectionCall V → Type 0
  SameEditions v u asked =
      (o : CallWithOutcome V) → o.asked ≡ asked → let reads = (content v.words v.blocks).reads o in with_editions v.boosted.editions reads
      ≡ with_editions u.boosted.editions reads

  -- and so is the outcome that it has of the base
  abbrev pub SameCopy : World V → World V → CollectionCall V → Type 0
  SameCopy v u asked =
      let c = content v.words v.blocks in SameEditions v u asked × (c.outcome v.boosted.parts asked ≡ c.outcome u.boosted.parts asked)

  -- what the next step of a finds is the same; a copy is judged by the base that it finds
  abbrev pub FindsAt : ℕ → World V → World V → Stage V → Type 0
  FindsAt a v u (Copying asked) = FindsBy a v u (atomic_action a v (Copying asked)) × SameCopy v u asked
  FindsAt a v u stage = FindsBy a (ready_at a v stage) (ready_at a u stage) (atomic_action a v stage)

  abbrev pub Finds : ℕ → World V → World V → Event V → Type 0
  Finds a v u (Ask b q) = b ≡ a
  Finds a v u (Step b) = (b ≡ a) × FindsAt a v u (v.seats a).stage
  Finds a v u (Starve b) = b ≡ a
