-- A seat of a lent client.
use Rattle.std.specs.Prelude.{◌≡◌, ℕ, Option, Some, None}
use Rattle.shared_table.specs.declared.table.TxTable.{TxTable}
use Rattle.shared_table.specs.Seated.{actor, view}
use Rattle.tx_engine.specs.declared.seats.TxSeat.{TxSeat}
use Rattle.tx_engine.specs.Ready.{IsReady}
use Rattle.tx_client.specs.Clients.{IsAtClient}
use Rattle.tx_client.specs.Frames.{AreBy}

module _ {V : Type 0} where
  abbrev pub shares_at : Option (TxSeat V) → ℕ
  shares_at (Some s) = (view s.seat).shares
  shares_at None = 0

  -- A lent client: one of the table, with one share.
  pub record IsLent (t : TxTable V) (seat : Option (TxSeat V)) : Type 0 where
    pub client : IsAtClient None t seat
    pub share : shares_at seat ≡ 1

  -- A seat that comes back is ready at its table, has one share, and its receipts are its own actor's.
  pub record IsBack (t : TxTable V) (s : TxSeat V) : Type 0 where
    pub ready : IsReady t s
    pub share : (view s.seat).shares ≡ 1
    pub own : AreBy (actor s.seat) (view s.seat).receipts
