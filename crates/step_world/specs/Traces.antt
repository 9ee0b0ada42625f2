-- What a trace shows of a world.
use Rattle.std.specs.Prelude.{◌≡◌, ℕ, zero, suc, Bool, ◌&&◌, ◌==◌, if◌then◌else◌, List, [], ◌∷◌, ◌++◌, map, Option, Some, None, slice_get}
use Rattle.seq_model.specs.declared.record.Record.{Record}
use Rattle.seq_model.specs.Contents.{Contents}
use Rattle.seq_model.specs.Runs.{IsInCommitOrder, IsRun, after_run}
use Rattle.replay_log.specs.Worlds.{World, Seat, no_one, is_half_done, half, state}
use Rattle.replay_log.specs.WorldSerial.{AllSaw}
use Rattle.tx_actor.specs.Running.{seat_of}
use Rattle.tx_actor.specs.declared.actor.TxActor.{TxActor}
use Rattle.step_world.specs.Parts.{ended_of}
use Rattle.step_world.specs.declared.trace.Trace.{Trace}

-- a number more, where it counts
abbrev pub with_number : Bool → ℕ → List ℕ → List ℕ
with_number b n ns = if b then ns ++ n ∷ [] else ns

module _ {V : Type 0} where
  abbrev pub seat_found : Option (TxActor V) → Seat V
  seat_found None = no_one
  seat_found (Some r) = seat_of r

  -- the seat of actor a among the actors from 1 on
  abbrev pub seat_at : List (TxActor V) → ℕ → Seat V
  seat_at rs zero = no_one
  seat_at rs (suc i) = seat_found (slice_get rs i)

  -- a writer's record whose commit is half done
  abbrev pub is_half : (ℕ → Seat V) → ℕ × Record V → Bool
  is_half seats r = r.1.writes && (is_half_done (seats r.0).stage && (r.1.number == (seats r.0).wv))

  -- The trace has the result of the world's events.
  pub record IsTraceOf (w : World V) (t : Trace V) : Type 0 where
    pub records : t.records ≡ w.records
    pub aborted : map ended_of t.aborted ≡ w.aborted
    pub state : t.state ≡ state w
    pub half : t.half ≡ half w

  -- Serial order of a trace: its records are in commit order and are a run from the opening, its state is what the run leaves where no
  -- commit is half done, and each aborted transaction saw a state after a prefix of it.
  pub record IsSerialTrace (opening : Contents V) (t : Trace V) : Type 0 where
    pub ordered : IsInCommitOrder t.records
    pub run : IsRun t.records opening
    pub left : t.half ≡ [] → t.state ≡ after_run t.records opening
    pub saw : AllSaw opening t.records (map ended_of t.aborted)
