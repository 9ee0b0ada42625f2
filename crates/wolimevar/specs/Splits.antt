-- Seats that are split off a store's seat, and joined again.
use Rattle.std.specs.Prelude.{◌≡◌, ℕ, ◌+◌, []}
use Rattle.shared_table.specs.declared.seat.Seat.{Seat}
use Rattle.shared_table.specs.declared.table.TxTable.{TxTable}
use Rattle.shared_table.specs.Seated.{view}
use Rattle.tx_turns.specs.RequestHistory.{requests_of}
use Rattle.tx_engine.specs.declared.seats.TxSeat.{TxSeat}
use Rattle.tx_engine.specs.Ready.{IsReady}

module _ {V : Type 0} where
  -- The seat has so many shares fewer. Nothing else that contracts see of a store has changed.
  pub record HasLeft (n : ℕ) (s u : Seat V) : Type 0 where
    pub shares : (view u).shares + n ≡ (view s).shares
    pub receipts : (view u).receipts ≡ (view s).receipts
    pub last : u.last ≡ s.last
    pub asked : requests_of u ≡ requests_of s

  -- A seat that was split off and not used: it is ready, and has nothing but one share.
  pub record IsUnused (t : TxTable V) (s : TxSeat V) : Type 0 where
    pub ready : IsReady t s
    pub share : (view s.seat).shares ≡ 1
    pub none : (view s.seat).receipts ≡ []
    pub last : s.seat.last ≡ 0
