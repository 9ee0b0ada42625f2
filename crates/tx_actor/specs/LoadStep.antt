-- What a load of a call's location makes of its actor.
use Rattle.std.specs.Prelude.{◌≡◌, ℕ, [], ◌∷◌, Option, Some, None}
use Rattle.tx_sets.specs.Entries.{Entries}
use Rattle.tx_machine.specs.Notices as notice
use Rattle.seq_model.specs.declared.event.Notice.TheVariants.{Quiet}
use Rattle.conflict.specs.declared.outcome.Outcome.{Outcome}
use Rattle.replay_log.specs.Worlds as worlds
use Rattle.replay_log.specs.Worlds.{World, Seat, After, has_loaded}
use Rattle.tx_actor.specs.declared.actor.CallWithOutcome as running
use Rattle.tx_actor.specs.declared.actor.Stage.{Stage}
use Rattle.tx_actor.specs.declared.actor.Stage.TheVariants as stage
use Rattle.tx_actor.specs.declared.actor.ActorNotice.{ActorNotice}
use Rattle.tx_actor.specs.declared.actor.TxActor.{TxActor}
use Rattle.tx_actor.specs.Answers.{CanAccept, MayAnswer}
use Rattle.tx_actor.specs.Running.{Runs, notice_of, outcome_in, seat_of, stage_in}

-- the location that is read next, with its copied edition
abbrev pub first_entry : Entries → Option (ℕ × ℕ)
first_entry [] = None
first_entry (d ∷ es) = Some d

module _ {V : Type 0} where
  -- the load of a call's first location was made, and answered n
  abbrev pub after_load : World V → ℕ → Seat V → worlds.Stage V → notice.Notice → After V
  after_load w a x (worlds.Loading o (d ∷ es)) n = has_loaded w a x o d es n
  after_load w a x s n = (w, Quiet)

  -- where an edition was read, all that the acceptance of the call takes is there
  abbrev pub IsLoadable : TxActor V → Stage V → notice.Notice → Type 0
  IsLoadable r (stage.Loading o left) (notice.Number v) = CanAccept r o
  IsLoadable r s n = Unit {0}

  -- where the copied edition was read, the call may continue in this world, which has x as its outcome
  abbrev pub MayJudge : ℕ → World V → TxActor V → Option (Outcome V) → running.CallWithOutcome V → Entries → notice.Notice → Type 0
  MayJudge a w r x o (d ∷ es) (notice.Number v) = d.1 ≡ v → MayAnswer w a r.words x o es
  MayJudge a w r x o es n = Unit {0}

  abbrev pub MayLoad : ℕ → World V → TxActor V → Stage V → notice.Notice → Type 0
  MayLoad a w r (stage.Loading o left) n = MayJudge a w r (outcome_in (w.seats a).stage) o left.items n
  MayLoad a w r s n = Unit {0}

  -- In every world in which r is an actor, it is u after the load, which answers t, where the call may continue.
  abbrev pub IsToldLoad : TxActor V → TxActor V → ActorNotice V → notice.Notice → Type 0
  IsToldLoad r u t n =
      (a : ℕ) (w : World V) → MayLoad a w r r.stage n → Runs a r w →
      let f = after_load w a (seat_of r) (stage_in (w.seats a).stage r.stage) n in
      Runs a u f.0 × (notice_of a t ≡ f.1)
