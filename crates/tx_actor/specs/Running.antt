-- What a running actor shows, and what a step of it makes of every world that shows it.
use Rattle.std.specs.Prelude.{◌≡◌, ℕ, Bool, true, false, List, [], ◌∷◌, take, drop, Option, None, if◌then◌else◌}
use Rattle.conflict.specs.declared.outcome.Outcome.{Outcome}
use Rattle.seq_model.specs.declared.event.Notice.{Notice}
use Rattle.seq_model.specs.declared.event.Notice.TheVariants.{Quiet, Answered, Refused}
use Rattle.step_core.specs.Shown as words
use Rattle.replay_log.specs.Contents as contents
use Rattle.replay_log.specs.Worlds as worlds
use Rattle.replay_log.specs.Worlds.{World, Seat, After}
use Rattle.actor_parts.specs.CopyList.{copy_of, has_piece}
use Rattle.tx_actor.specs.declared.actor.CollectionCall.{CollectionCall}
use Rattle.tx_actor.specs.declared.actor.CallWithOutcome as running
use Rattle.tx_actor.specs.declared.actor.Stage.{Stage}
use Rattle.tx_actor.specs.declared.actor.Stage.TheVariants as stage
use Rattle.tx_actor.specs.declared.actor.ActorNotice.{ActorNotice}
use Rattle.tx_actor.specs.declared.actor.ActorNotice.TheVariants as told
use Rattle.tx_actor.specs.declared.actor.TxActor.{TxActor}

module _ {V : Type 0} where
  abbrev pub asked_of : CollectionCall V → contents.CollectionCall V
  asked_of asked = record { collection = asked.collection; op = asked.op }

  abbrev pub answered_of : running.CallWithOutcome V → contents.CallWithOutcome V
  answered_of o = record { asked = asked_of o.asked; outcome = o.outcome }

  -- the call with this outcome
  abbrev pub with_outcome : running.CallWithOutcome V → Option (Outcome V) → contents.CallWithOutcome V
  with_outcome o x = record { asked = asked_of o.asked; outcome = x }

  abbrev pub stage_of : Stage V → worlds.Stage V
  stage_of stage.Idle = worlds.Idle
  stage_of stage.Beginning = worlds.Beginning
  stage_of stage.Open = worlds.Open
  stage_of (stage.Locking homes) = worlds.Locking
  stage_of stage.Releasing = worlds.Releasing
  stage_of stage.Closing = worlds.Closing
  stage_of stage.Cancelling = worlds.Cancelling
  stage_of stage.Leaving = worlds.Leaving
  stage_of (stage.Reading l) = worlds.Reading l
  stage_of (stage.Trying asked tries) = worlds.Trying (asked_of asked) tries
  stage_of (stage.Copying asked) = worlds.Copying (asked_of asked)
  stage_of (stage.Loading o left) = worlds.Loading (answered_of o) left.items
  stage_of (stage.Gating homes got tries) = worlds.Gating (take got homes.items) (drop got homes.items) tries
  stage_of (stage.Ready homes) = worlds.Ready homes.items
  stage_of (stage.Storing homes) = worlds.Storing homes.items
  stage_of (stage.Homing homes) = worlds.Homing homes.items
  stage_of (stage.Returning homes) = worlds.Returning homes.items
  stage_of (stage.ReturningOne k) = worlds.Returning (k ∷ [])

  abbrev pub seat_of : TxActor V → Seat V
  seat_of r =
      record {
        stage = stage_of r.stage;
        rv = r.rv;
        wv = r.wv;
        cause = r.cause;
        calls = r.calls.items;
        copied = λ k q. has_piece (copy_of r.copies.items k) q;
      }

  -- the outcome of the call whose locations are read
  abbrev pub outcome_in : worlds.Stage V → Option (Outcome V)
  outcome_in (worlds.Loading o left) = o.outcome
  outcome_in s = None

  -- The actor's stage in a world that has it at s. While the locations of a call are read, its outcome there is the world's: where a piece
  -- is copied after another's commit, of a location that was read before it, the actor can't know that outcome, and the call results in
  -- nothing.
  abbrev pub stage_in : worlds.Stage V → Stage V → worlds.Stage V
  stage_in s (stage.Loading o left) = worlds.Loading (with_outcome o (outcome_in s)) left.items
  stage_in s t = stage_of t

  abbrev pub seat_in : worlds.Stage V → TxActor V → Seat V
  seat_in s r = worlds.at_stage (seat_of r) (stage_in s r.stage)

  -- From the first value store on nothing reads the calls and the copies of a seat: its record has the calls, and its logs are folded in.
  -- So an actor may have handed them out, and what the world's seat has of them is the world's alone.
  abbrev pub is_recorded : Stage V → Bool
  is_recorded (stage.Storing homes) = true
  is_recorded (stage.Homing homes) = true
  is_recorded stage.Releasing = true
  is_recorded s = false

  -- the seat that the actor has in a world that has x for it
  abbrev pub seat_at : Seat V → TxActor V → Seat V
  seat_at x r =
      if is_recorded r.stage then record (seat_in x.stage r) { calls = x.calls; copied = x.copied } else seat_in x.stage r

  -- a seat with the actor's numbers and cause
  abbrev pub IsSeatOf : Seat V → TxActor V → Type 0
  IsSeatOf x r = (x.rv ≡ r.rv) × (x.wv ≡ r.wv) × (x.cause ≡ r.cause)

  -- what actor a is answered
  abbrev pub notice_of : ℕ → ActorNotice V → Notice V
  notice_of a told.Quiet = Quiet
  notice_of a (told.Answered x) = Answered a x
  notice_of a (told.Refused x) = Refused a x

  -- the collections whose gates a commit is to take are those that its actor has written
  abbrev pub KnowsHomes : Stage V → List ℕ → Type 0
  KnowsHomes (stage.Locking homes) ks = homes.items ≡ ks
  KnowsHomes stage ks = Unit {0}

  -- r is actor a of the world w: its seat, but for what is left open, and its word actor are those that r shows
  abbrev pub Runs : ℕ → TxActor V → World V → Type 0
  Runs a r w =
      (w.seats a ≡ seat_at (w.seats a) r) × (worlds.actor_of w a ≡ words.actor_of r.words) × KnowsHomes r.stage (worlds.written_homes w a)

  -- In every world in which r is an actor, it is u after f, which answers t.
  abbrev pub Does : TxActor V → TxActor V → ActorNotice V → (ℕ → World V → After V) → Type 0
  Does r u t f = (a : ℕ) (w : World V) → Runs a r w → Runs a u (f a w).0 × (notice_of a t ≡ (f a w).1)

  -- The same, whatever seat the world has for it; its word actor stands.
  abbrev pub Reseats : TxActor V → TxActor V → ActorNotice V → (ℕ → World V → After V) → Type 0
  Reseats r u t f = (a : ℕ) (w : World V) → worlds.actor_of w a ≡ words.actor_of r.words
      → Runs a u (f a w).0 × (notice_of a t ≡ (f a w).1)

  -- r, at this stage
  abbrev pub at : TxActor V → Stage V → TxActor V
  at r s = record r { stage = s }
