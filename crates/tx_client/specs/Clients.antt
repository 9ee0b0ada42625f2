-- A client, and what contracts see of it.
use Rattle.std.specs.Prelude.{◌≡◌, ℕ, List, [], Option, Some, None}
use Rattle.seq_model.specs.declared.event.Request.{Request}
use Rattle.shared_table.specs.declared.seat.Seat.{Seat}
use Rattle.shared_table.specs.declared.table.TxTable.{TxTable}
use Rattle.shared_table.specs.Seated.{actor, view}
use Rattle.tx_turns.specs.RequestHistory.{requests_of}
use Rattle.tx_client.specs.declared.tally.Tally.{Tally}
use Rattle.tx_engine.specs.declared.seats.TxSeat.{TxSeat}
use Rattle.tx_client.specs.Ends.{ClientShown}
use Rattle.tx_client.specs.Frames.{Frame, IsClient, later, receipts_at}

module _ {V : Type 0} where
  abbrev pub shown : Option (Frame V) → Seat V → Tally → ClientShown V
  shown f s tally = record {
    actor = actor s;
    last = s.last;
    receipts = later f (view s).receipts;
    asked = requests_of s;
    tally = tally;
  }

  abbrev pub actor_at : Option (TxSeat V) → ℕ
  actor_at (Some s) = actor s.seat
  actor_at None = 0

  -- the last number that it committed or learnt
  abbrev pub last_at : Option (TxSeat V) → ℕ
  last_at (Some s) = s.seat.last
  last_at None = 0

  abbrev pub requests_at : Option (TxSeat V) → List (Request V)
  requests_at (Some s) = requests_of s.seat
  requests_at None = []

  abbrev pub shown_at : Option (Frame V) → Option (TxSeat V) → Tally → ClientShown V
  shown_at f seat tally = record {
    actor = actor_at seat;
    last = last_at seat;
    receipts = later f (receipts_at seat);
    asked = requests_at seat;
    tally = tally;
  }

  -- its seat is there, and is ready
  pub record IsAtClient (f : Option (Frame V)) (t : TxTable V) (seat : Option (TxSeat V)) : Type 0 where
    pub own : TxSeat V
    pub is : seat ≡ Some own
    pub client : IsClient f t own
