-- A seat between its requests.
use Rattle.shared_table.specs.declared.table.TxTable.{TxTable}
use Rattle.tx_engine.specs.declared.seats.TxSeat.{TxSeat}
use Rattle.tx_engine.specs.Ready.{HasBegunSince, IsReady}

pub record IsFit {V : Type 0} (t : TxTable V) (s : TxSeat V) : Type 0 where
  pub ready : IsReady t s
  pub since : HasBegunSince t s
