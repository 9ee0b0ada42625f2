-- What a seat of the shared table holds between its requests.
use Rattle.std.specs.Prelude.{◌≡◌, ◌≢◌, ℕ, List, [], Some}
use Rattle.seq_model.specs.declared.event.Event.{Event}
use Rattle.actor_laws.specs.Own.{Alike}
use Rattle.replay_log.specs.Seats.{World, actor_of}
use Rattle.replay_log.specs.Worlds.{run}
use Rattle.shared_table.specs.Seated.{actor, acts, kept}
use Rattle.shared_table.specs.declared.seat.Seat.{Seat}

-- the actor holds no lock and no gate in this world
pub record HasNothing {V : Type 0} (a : ℕ) (w : World V) : Type 0 where
  pub locks : (actor_of w a).held ≡ []
  pub gates : (k : ℕ) → w.boosted.gates k ≢ Some a

-- Events lead from the opening to a world which is to the actor of the seat as its own, and there the actor holds nothing; nor does it in
-- any that is to it as its own was after its last turn, as it is in what the table shows.
pub record HoldsNothing {V : Type 0} (o : World V) (s : Seat V) : Type 0 where
  pub events : List (Event V)
  pub alike : Alike (actor s) (run o events) (acts o s)
  pub free : HasNothing (actor s) (run o events)
  pub shown : (reached : List (Event V)) → Alike (actor s) (run o reached) (kept o s) → HasNothing (actor s) (run o reached)
