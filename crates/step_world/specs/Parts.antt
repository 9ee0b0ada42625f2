-- The parts of a running world, the world of the definitions that they are, and what an event makes of both.
use Rattle.std.specs.Prelude.{◌≡◌, ℕ, ◌+◌, ◌≤◌, false, List, [], ◌∷◌, map, Some, length, slice_get}
use Rattle.tx_machine.specs.Actor.{clock_limit}
use Rattle.seq_model.specs.declared.limits.TheConstants.{SEATS}
use Rattle.step_world.specs.declared.opening.TheConstants.{ACTORS}
use Rattle.seq_model.specs.declared.event.Event.{Event}
use Rattle.seq_model.specs.declared.event.Event.TheVariants.{Starve}
use Rattle.seq_model.specs.Contents.{Contents}
use Rattle.step_core.specs.Shown.{is_actor}
use Rattle.step_core.specs.Sound.{owed}
use Rattle.replay_log.specs.Seats as seats
use Rattle.replay_log.specs.WorldProgress.{whose}
use Rattle.replay_log.specs.Worlds.{World, happens, no_one}
use Rattle.actor_parts.specs.Blocks.{BlocksView, IsLaid}
use Rattle.actor_parts.specs.Dispatch.{next_of}
use Rattle.tx_actor.specs.CopiesByStage.{HasCopies}
use Rattle.tx_actor.specs.ActorBounds.{IsRunning}
use Rattle.tx_actor.specs.Running.{Runs, notice_of, stage_of}
use Rattle.tx_actor.specs.declared.actor.Stage as own
use Rattle.tx_actor.specs.declared.actor.ActorNotice.{ActorNotice}
use Rattle.tx_actor.specs.declared.actor.TxActor.{TxActor}
use Rattle.actor_parts.specs.declared.next.Next.{Next}
use Rattle.actor_parts.specs.Openings.{HasShape}
use Rattle.actor_parts.specs.Tables.{HasTable}
use Rattle.step_world.specs.declared.parts.Parts.{Parts}
use Rattle.step_world.specs.declared.trace.Ended.{Ended}
use Rattle.step_world.specs.Homes.{HasRoomLeft}
use Rattle.step_world.specs.Reached.{IsReached}

module _ {V : Type 0} where
  abbrev pub ended_of : Ended V → seats.Ended V
  ended_of e = record { actor = e.actor; rv = e.rv; calls = e.calls; cause = e.cause }

  -- the numbers that the actors may still take
  abbrev pub total_owed : List (TxActor V) → ℕ
  total_owed [] = 0
  total_owed (r ∷ rs) = owed r.words.place + total_owed rs

  -- r is actor a of the world w, whose locations are as in v, and has what its steps ask of it, and of collections what its stage asks.
  pub record IsSeat (v : BlocksView) (w : World V) (a : ℕ) (r : TxActor V) : Type 0 where
    pub runs : Runs a r w
    pub running : IsRunning v r
    pub copies : HasCopies r w a

  -- The parts are those of the world w: its table, its actors 1 to 64, each at the place before its number, and the result of its events so
  -- far. The bases that are still to be put back have room for it. The clock is far from its end.
  pub record IsWorld (c : Parts V) (w : World V) : Type 0 where
    pub laid : IsLaid c.blocks w
    pub table : HasTable c.table w
    pub shape : HasShape c.table w.words w.blocks
    pub count : length c.actors.items ≡ ACTORS
    pub seats : (i : ℕ) (r : TxActor V) → slice_get c.actors.items i ≡ Some r → IsSeat c.blocks w (i + 1) r
    pub room : (i : ℕ) (r : TxActor V) → slice_get c.actors.items i ≡ Some r → HasRoomLeft c.table r
    pub others : (a : ℕ) → is_actor a ≡ false → w.seats a ≡ no_one
    pub records : c.records.items ≡ w.records
    pub aborted : map ended_of c.aborted.items ≡ w.aborted
    pub clock : c.table.cells.clock + total_owed c.actors.items ≤ clock_limit + SEATS

  -- The parts are those of some world that events have reached.
  pub record HasWorld (c : Parts V) : Type 0 where
    pub opening : Contents V
    pub world : World V
    pub reached : IsReached opening world
    pub parts : IsWorld c world

  -- In every world that events have reached and of which c are the parts, d are the parts of what the event leaves, and its answer is n.
  pub record Happens (c : Parts V) (e : Event V) (d : Parts V) (n : ActorNotice V) : Type 0 where
    pub parts : (opening : Contents V) (w : World V) → IsReached opening w → IsWorld c w → IsWorld d (happens w e).0
    pub told : (opening : Contents V) (w : World V) → IsReached opening w → IsWorld c w → notice_of (whose e) n ≡ (happens w e).1

  -- d are the parts of each world that events have reached and of which c are
  abbrev pub Stays : Parts V → Parts V → Type 0
  Stays c d = (opening : Contents V) (w : World V) → IsReached opening w → IsWorld c w → IsWorld d w

  -- An allocation failed for the request of the actor at place i, and d are the parts that this leaves.
  pub record IsStarved (c : Parts V) (i : ℕ) (d : Parts V) : Type 0 where
    pub told : ActorNotice V
    pub happens : Happens c (Starve (i + 1)) d told

  -- this is what the next step of the actor at place i does
  abbrev pub IsDue : Parts V → ℕ → Next → Type 0
  IsDue c i n = (r : TxActor V) → slice_get c.actors.items i ≡ Some r → next_of (stage_of r.stage) ≡ n

  -- and there it stands
  abbrev pub IsAt : Parts V → ℕ → own.Stage V → Type 0
  IsAt c i s = (r : TxActor V) → slice_get c.actors.items i ≡ Some r → r.stage ≡ s
