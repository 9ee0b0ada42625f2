-- What a request makes of a seat, and what it is answered at once.
use Rattle.std.specs.Prelude.{◌≡◌, [], ◌∷◌, ◌++◌}
use Rattle.seq_model.specs.declared.event.Event.{Event}
use Rattle.seq_model.specs.declared.event.Event.TheVariants.{Ask, Starve}
use Rattle.seq_model.specs.declared.event.Request.{Request}
use Rattle.replay_log.specs.Seats.{World}
use Rattle.replay_log.specs.Worlds.{happens}
use Rattle.tx_actor.specs.Running.{notice_of}
use Rattle.tx_actor.specs.declared.actor.ActorNotice.{ActorNotice}
use Rattle.shared_table.specs.declared.seat.Seat.{Seat}
use Rattle.shared_table.specs.Seated.{IsSameSeat, actor, acts, list_of}

module _ {V : Type 0} where
  -- the seat's actor has asked this too since its last step, or an allocation of it failed; the number of the event is no matter
  abbrev pub HasTaken : Seat V → Event V → Seat V → Type 0
  HasTaken s e u = IsSameSeat s u × (u.place.me ≡ s.place.me) × (list_of u.asked ≡ list_of s.asked ++ e ∷ [])

  abbrev pub HasAsked : Seat V → Request V → Seat V → Type 0
  HasAsked s q u = HasTaken s (Ask 0 q) u

  -- an allocation failed for its request, which the definitions answer so in the world with the seat alone
  pub record Starved (o : World V) (s u : Seat V) (n : ActorNotice V) : Type 0 where
    pub taken : HasTaken s (Starve 0) u
    pub own : acts o u ≡ (happens (acts o s) (Starve (actor s))).0
    pub tells : notice_of (actor s) n ≡ (happens (acts o s) (Starve (actor s))).1

  -- the definitions answer the request so, in the world with the seat alone
  abbrev pub Answers : World V → Seat V → Request V → ActorNotice V → Type 0
  Answers o s q n = notice_of (actor s) n ≡ (happens (acts o s) (Ask (actor s) q)).1
