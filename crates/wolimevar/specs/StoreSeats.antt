-- A store, between its transactions.
use Rattle.std.specs.Prelude.{◌≡◌, ℕ, [], Option, Some, None}
use Rattle.shared_table.specs.declared.table.TxTable.{TxTable}
use Rattle.shared_table.specs.Seated.{contents_in, view}
use Rattle.shared_table.specs.declared.view.TheConstants.{SHARES}
use Rattle.tx_turns.specs.RequestHistory.{requests_of}
use Rattle.tx_client.specs.declared.tally.Tally.{Tally}
use Rattle.tx_engine.specs.declared.seats.TxSeat.{TxSeat}
use Rattle.tx_engine.specs.Ready.{IsReady}
use Rattle.wolimevar.specs.Stores.{StoreShown}

module _ {V : Type 0} where
  abbrev pub store_at : ℕ → TxTable V → Option (TxSeat V) → Tally → StoreShown V
  store_at n t (Some s) tally = record {
    number = n;
    opening = contents_in t;
    receipts = (view s.seat).receipts;
    last = s.seat.last;
    asked = requests_of s.seat;
    tally = tally;
  }
  store_at n t None tally =
      record { number = n; opening = contents_in t; receipts = []; last = 0; asked = []; tally = tally }

  -- its seat is there, and is ready, and has all shares
  pub record IsAtStore (t : TxTable V) (seat : Option (TxSeat V)) : Type 0 where
    pub own : TxSeat V
    pub is : seat ≡ Some own
    pub ready : IsReady t own
    pub whole : (view own.seat).shares ≡ SHARES
