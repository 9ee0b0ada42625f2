-- What an event makes of the table of a world and of its actor.
use Rattle.std.specs.Prelude.{◌≡◌, ◌≢◌, ℕ}
use Rattle.seq_model.specs.declared.event.Event.{Event}
use Rattle.seq_model.specs.Contents.{Contents}
use Rattle.replay_log.specs.WorldProgress.{whose}
use Rattle.replay_log.specs.Worlds.{World, happens}
use Rattle.actor_parts.specs.Blocks.{BlocksView, IsLaid}
use Rattle.tx_actor.specs.CopiesByStage.{HasCopies}
use Rattle.tx_actor.specs.ActorBounds.{IsRunning}
use Rattle.tx_actor.specs.Running.{Runs, notice_of}
use Rattle.tx_actor.specs.declared.actor.ActorNotice.{ActorNotice}
use Rattle.tx_actor.specs.declared.actor.TxActor.{TxActor}
use Rattle.actor_parts.specs.Tables.{HasTable}
use Rattle.actor_parts.specs.declared.table.Table.{Table}
use Rattle.step_world.specs.Homes.{HasRoomLeft}
use Rattle.step_world.specs.Reached.{IsReached}

-- In every world that events have reached, which is laid out so, of which t is the table and in which r is the event's actor, and has of
-- collections what its stage asks for, the event leaves the table u and the actor s, and answers n.
pub record IsTurn {V : Type 0} (v : BlocksView) (e : Event V) (t : Table V) (r : TxActor V) (u : Table V) (s : TxActor V)
    (n : ActorNotice V) : Type 0 where
  pub turns : (opening : Contents V) (w : World V) → IsReached opening w → IsLaid v w → HasTable t w → Runs (whose e) r w
      → HasCopies r w (whose e) → HasTable u (happens w e).0 × Runs (whose e) s (happens w e).0 × (notice_of (whose e) n ≡ (happens w e).1)

-- In every world that events have reached and that is laid out so, of which t is the table, in which r is the event's actor and s is
-- afterwards: where r has of collections what its stage asks for, s has; and so has every other actor what it had.
pub record KeepsOwn {V : Type 0} (v : BlocksView) (e : Event V) (t : Table V) (r s : TxActor V) : Type 0 where
  pub own : (opening : Contents V) (w : World V) → IsReached opening w → IsLaid v w → HasTable t w → Runs (whose e) r w
      → Runs (whose e) s (happens w e).0 → IsRunning v s → HasCopies r w (whose e) → HasCopies s (happens w e).0 (whose e)
  pub others : (w : World V) (b : ℕ) (q : TxActor V) → b ≢ whose e → HasCopies q w b → HasCopies q (happens w e).0 b

-- In every world that events have reached, in which r is the event's actor and s is afterwards: where the bases of t that r has left to put
-- back have room, those of u that s has left have; and so have those that every other actor of the world has left afterwards.
pub record KeepsRoom {V : Type 0} (e : Event V) (t : Table V) (r : TxActor V) (u : Table V) (s : TxActor V) : Type 0 where
  pub own : (opening : Contents V) (w : World V) → IsReached opening w → Runs (whose e) r w → Runs (whose e) s (happens w e).0
      → HasRoomLeft t r → HasRoomLeft u s
  pub others : (opening : Contents V) (w : World V) (b : ℕ) (q : TxActor V) → IsReached opening w → Runs (whose e) r w
      → Runs b q (happens w e).0 → HasRoomLeft t q → HasRoomLeft u q
