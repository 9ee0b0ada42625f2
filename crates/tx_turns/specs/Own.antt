-- What a seat has out of the table, and its actor of collections.
use Rattle.std.specs.Prelude.{◌≡◌, List}
use Rattle.replay_log.specs.declared.base.Base.{Base}
use Rattle.tx_actor.specs.CopiesByStage.{HasCopies}
use Rattle.tx_actor.specs.declared.actor.TxActor.{TxActor}
use Rattle.shared_table.specs.declared.seat.Seat.{Seat}
use Rattle.shared_table.specs.declared.table.TxTable.{TxTable}
use Rattle.shared_table.specs.Seated.{actor, acts, opening_of, out}
use Rattle.tx_turns.specs.Bases.{AreBases, ArePreparedAt, gates_at, slots_of}

-- A seat of the table that runs the actor r, with these bases in hand. In the world with r alone it has of collections what its stage asks
-- for. The seat has out the bases of the gates that r holds, and it is these, as they are in that world; those that are to be put back with
-- a log are prepared for it.
pub record HasOwn {V : Type 0} (t : TxTable V) (s : Seat V) (r : TxActor V) (bs : List (Base V)) : Type 0 where
  pub copies : HasCopies r (acts (opening_of t) s) (actor s)
  pub out : out s ≡ slots_of (gates_at r.stage)
  pub bases : AreBases (opening_of t) (acts (opening_of t) s) (gates_at r.stage) bs
  pub prepared : ArePreparedAt r.copies.items r.stage bs
