-- A request that is aborted as an allocation fails at the store of a call's gate.
use Rattle.std.specs.Prelude.{◌≡◌, ◌⊎◌, true, []}
use Rattle.replay_log.specs.Seats.{World}
use Rattle.actor_parts.specs.Dispatch.{is_loading}
use Rattle.tx_actor.specs.declared.actor.ActorNotice.{ActorNotice}
use Rattle.tx_actor.specs.declared.actor.ActorNotice.TheVariants as told
use Rattle.tx_actor.specs.declared.actor.TxActor.{TxActor}
use Rattle.shared_table.specs.declared.seat.Seat.{Seat}
use Rattle.shared_table.specs.Seated.{actor, acts}
use Rattle.tx_turns.specs.RequestStep.{Starved}
use Rattle.tx_turns.specs.Ties.{Turned, commits}

module _ {V : Type 0} where
  -- The seat s, which runs r, put the gate of a call back, which answered nothing and committed nothing, and read for the call then; so an
  -- allocation failed for it, and it is u.
  pub record IsGivenUpBehind (o : World V) (s : Seat V) (r : TxActor V) (u : Seat V) (n : ActorNotice V) : Type 0 where
    pub middle : Seat V
    pub turned : Turned o s r middle told.Quiet
    pub none : commits (actor s) r ≡ []
    pub loads : is_loading ((acts o middle).seats (actor middle)).stage ≡ true
    pub starved : Starved o middle u n

  -- an allocation failed for the seat s, which runs r: it took no step, or put the gate of a call back
  abbrev pub IsGivenUp : World V → Seat V → TxActor V → Seat V → ActorNotice V → Type 0
  IsGivenUp o s r u n = Starved o s u n ⊎ IsGivenUpBehind o s r u n
