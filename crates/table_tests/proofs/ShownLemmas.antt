-- What a law says of a refusal is so of whatever was answered.
use Rattle.std.proofs.Common.{Result, Ok, Err, IfErr}
use Rattle.seq_model.specs.declared.call.Call.{Call}
use Rattle.seq_model.specs.declared.call.Reply.{Reply}
use Rattle.seq_model.specs.declared.record.Record.{Record}
use Rattle.seq_model.specs.declared.refusal.Refusal.{Refusal}
use Rattle.tx_engine.specs.Ready.{HasCalled, HasFinished}
use Rattle.tx_engine.specs.declared.seats.TxSeat.{TxSeat}
use Rattle.shared_table.specs.declared.table.TxTable.{TxTable}

module _ {V : Type 0} (t : TxTable V) (s u : TxSeat V) (P : Refusal → Type 0) where
  pub if_called : (call : Call V) → ((cause : Refusal) → HasCalled t s u call (Err cause) → P cause)
      → (r : Result (Reply V) Refusal) → HasCalled t s u call r → IfErr r P
  if_called call law (Ok reply) h = tt
  if_called call law (Err cause) h = law cause h

  pub if_finished : ((cause : Refusal) → HasFinished t s u (Err cause) → P cause) → (r : Result (Record V) Refusal) → HasFinished t s u r
      → IfErr r P
  if_finished law (Ok receipt) h = tt
  if_finished law (Err cause) h = law cause h
