-- An actor that reads for a call, or holds the gate of one, as some world shows it.
use Rattle.seq_model.specs.Contents.{Contents}
use Rattle.replay_log.specs.Worlds.{World}
use Rattle.std.specs.Prelude.{ℕ}
use Rattle.actor_parts.specs.Blocks.{BlocksView, IsLaid}
use Rattle.tx_actor.specs.CopiesByStage.{HasCopies}
use Rattle.tx_actor.specs.Running.{Runs}
use Rattle.tx_actor.specs.declared.actor.TxActor.{TxActor}
use Rattle.actor_parts.specs.Tables.{HasTable}
use Rattle.actor_parts.specs.declared.table.Table.{Table}
use Rattle.step_world.specs.Reached.{IsReached}

-- There is a world that events have reached, which is laid out as v and of which t is the table, and in which r is one of the actors and
-- has of collections what its stage asks for.
pub record IsSeated {V : Type 0} (v : BlocksView) (t : Table V) (r : TxActor V) : Type 0 where
  pub opening : Contents V
  pub world : World V
  pub actor : ℕ
  pub reached : IsReached opening world
  pub laid : IsLaid v world
  pub table : HasTable t world
  pub runs : Runs actor r world
  pub copies : HasCopies r world actor
