-- A seat without a transaction is fit for its next request.
use Rattle.std.proofs.Common.{◌≡◌}
use Rattle.shared_table.specs.declared.table.TxTable.{TxTable}
use Rattle.shared_table.specs.Seated.{opening_of}
use Rattle.actor_laws.specs.KnownStages.{Rests}
use Rattle.tx_engine.proofs.ReadyLemmas.{rests_since}
use Rattle.tx_turns.specs.Driven.{standing}
use Rattle.tx_engine.specs.Ready.{IsReady}
use Rattle.tx_engine.specs.declared.seats.TxSeat.{TxSeat}
use Rattle.table_tests.specs.Fit.{IsFit}

module _ {V : Type 0} where
  pub rests_fit : (t : TxTable V) (s : TxSeat V) → IsReady t s → standing (opening_of t) s.seat ≡ Rests → IsFit t s
  rests_fit t s ready rests = record { ready = ready; since = rests_since t s rests }
