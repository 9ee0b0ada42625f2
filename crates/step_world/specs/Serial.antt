-- Serial order of a world that runs, by what it keeps.
use Rattle.std.specs.Prelude.{◌≡◌, ℕ, false, map, take, Some, slice_get}
use Rattle.seq_model.specs.Contents.{Contents}
use Rattle.seq_model.specs.Runs.{IsInCommitOrder, IsRun, after_run}
use Rattle.replay_log.specs.Worlds.{World, is_half_done}
use Rattle.replay_log.specs.WorldSerial.{AllSaw, SawAt}
use Rattle.tx_actor.specs.Running.{seat_of, stage_of}
use Rattle.tx_actor.specs.declared.actor.TxActor.{TxActor}
use Rattle.actor_parts.specs.States.{held_in}
use Rattle.step_world.specs.declared.parts.Parts.{Parts}
use Rattle.step_world.specs.Parts.{IsWorld, ended_of}
use Rattle.step_world.specs.Reached.{IsReached}

module _ {V : Type 0} where
  -- The parts are those of a world that events led to from one that opened on these contents.
  pub record IsFrom (opening : Contents V) (c : Parts V) : Type 0 where
    pub world : World V
    pub reached : IsReached opening world
    pub parts : IsWorld c world

  -- no commit of an actor is half done
  abbrev pub NoneIsHalf : Parts V → Type 0
  NoneIsHalf c = (i : ℕ) (r : TxActor V) → slice_get c.actors.items i ≡ Some r → is_half_done (stage_of r.stage) ≡ false

  -- The committed records are in commit order and are a run from the opening, each reply that of the run; words and collections hold what
  -- it leaves where no commit is half done; the transaction of each actor that is neither committed nor ended, and each aborted one, saw
  -- the state that a beginning of the run leaves, up to the number that it began with.
  pub record IsSerialFrom (opening : Contents V) (c : Parts V) : Type 0 where
    pub ordered : IsInCommitOrder c.records.items
    pub run : IsRun c.records.items opening
    pub words : NoneIsHalf c → take c.blocks.words c.table.cells.values.items ≡ (after_run c.records.items opening).words
    pub held : NoneIsHalf c → held_in c.table ≡ (after_run c.records.items opening).held
    pub open_saw : (i : ℕ) (r : TxActor V) → slice_get c.actors.items i ≡ Some r
        → SawAt opening c.records.items (seat_of r) (stage_of r.stage)
    pub aborted_saw : AllSaw opening c.records.items (map ended_of c.aborted.items)
