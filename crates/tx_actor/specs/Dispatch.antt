-- What a step makes of an actor at each stage, once its atomic action is done.
use Rattle.std.specs.Prelude.{◌≡◌, ℕ, ◌<◌, Bool, true, false}
use Rattle.tx_machine.specs.Notices as notice
use Rattle.replay_log.specs.Worlds.{World, After, starve_at}
use Rattle.actor_parts.specs.Dispatch.{MayGoOn, after_home, after_word}
use Rattle.actor_parts.specs.PrivateCopy.{holds_of}
use Rattle.actor_parts.specs.CopyList.{copy_of}
use Rattle.tx_actor.specs.Answers.{CanLoad}
use Rattle.tx_actor.specs.Running.{Does, Runs, notice_of, seat_at, seat_of, stage_of}
use Rattle.std.specs.Vec.{vec_len, vec_capacity}
use Rattle.tx_actor.specs.declared.actor.Stage as running
use Rattle.tx_actor.specs.declared.actor.Stage.TheVariants as stage
use Rattle.tx_actor.specs.declared.actor.ActorNotice.{ActorNotice}
use Rattle.tx_actor.specs.declared.actor.TxActor.{TxActor}

module _ {V : Type 0} where
  -- In every world in which r is an actor, it is u after f, which answers t, where it may continue.
  abbrev pub Steps : TxActor V → TxActor V → ActorNotice V → (ℕ → World V → After V) → Type 0
  Steps r u t f = (a : ℕ) (w : World V) → MayGoOn a w (stage_of r.stage) → Runs a r w
      → Runs a u (f a w).0 × (notice_of a t ≡ (f a w).1)

  -- r becomes u by what the words answered
  abbrev pub IsToldWord : TxActor V → TxActor V → ActorNotice V → notice.Notice → Type 0
  IsToldWord r u t n = Steps r u t (λ a w. after_word w a (seat_at (w.seats a) r) (stage_of r.stage) n)

  -- and by a base that was put back
  abbrev pub IsGoneHome : TxActor V → TxActor V → ActorNotice V → Type 0
  IsGoneHome r u t = Steps r u t (λ a w. after_home w a (seat_at (w.seats a) r) (stage_of r.stage))

  -- a step of the words that makes a record of the transaction, or ends it
  abbrev pub Records : running.Stage V → Type 0
  Records (stage.Ready homes) = Unit {0}
  Records stage.Closing = Unit {0}
  Records stage.Leaving = Unit {0}
  Records s = ⊥

  -- Nothing comes of a step at this stage that answered nothing.
  abbrev pub waits_at : running.Stage V → Bool
  waits_at (stage.Reading l) = true
  waits_at (stage.Locking homes) = true
  waits_at stage.Releasing = true
  waits_at stage.Cancelling = true
  waits_at s = false

  -- r becomes u by a failed allocation
  abbrev pub Starves : TxActor V → TxActor V → ActorNotice V → Type 0
  Starves r u t = Does r u t (λ a w. starve_at w a (seat_of r) (stage_of r.stage))

  -- What the request that is under way has to find in its actor: room for the reply of a read; a gate is tried, and held, for a call that
  -- the actor's copies don't hold; and a call whose locations are read is made ready.
  abbrev pub HasRoom : TxActor V → running.Stage V → Type 0
  HasRoom r (stage.Reading l) = vec_len r.calls < vec_capacity r.calls
  HasRoom r (stage.Trying asked tries) = holds_of (copy_of r.copies.items asked.collection) asked.op ≡ false
  HasRoom r (stage.Copying asked) = holds_of (copy_of r.copies.items asked.collection) asked.op ≡ false
  HasRoom r (stage.Loading call left) = CanLoad r call left.items
  HasRoom r s = Unit {0}
