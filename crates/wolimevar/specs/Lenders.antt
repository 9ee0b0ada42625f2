-- A lender, and what it takes back.
use Rattle.std.specs.Prelude.{◌≡◌, ℕ, ◌+◌, ◌≤◌, ◌++◌, All, List, Some, length}
use Rattle.seq_model.specs.declared.record.Record.{Record}
use Rattle.shared_table.specs.declared.seat.Seat.{Seat}
use Rattle.shared_table.specs.declared.table.TxTable.{TxTable}
use Rattle.shared_table.specs.Seated.{view}
use Rattle.tx_turns.specs.RequestHistory.{requests_of}
use Rattle.tx_engine.specs.declared.seats.TxSeat.{TxSeat}
use Rattle.tx_engine.specs.Ready.{IsReady}
use Rattle.wolimevar.specs.declared.homes.Home.{Home}
use Rattle.tx_client.specs.declared.tally.Tally.{Tally}
use Rattle.wolimevar.specs.Homes.{IsHomeOf}
use Rattle.wolimevar.specs.Sessions.{IsOfOne, joined}
use Rattle.wolimevar.specs.Stores.{StoreShown}
use Rattle.wolimevar.specs.StoreSeats.{store_at}

module _ (V : Type 0) where
  -- what contracts see of a lender: its store, and how many shares it has
  pub record LenderShown : Type 0 where
    pub store : StoreShown V
    pub shares : ℕ

module _ {V : Type 0} where
  abbrev pub lender_at : ℕ → TxTable V → TxSeat V → Tally → LenderShown V
  lender_at n t s tally = record { store = store_at n t (Some s) tally; shares = (view s.seat).shares }

  -- its seat is ready, and its homes take seats of its table
  pub record IsAtLender (t : TxTable V) (s : TxSeat V) (homes : List (Home V)) : Type 0 where
    pub ready : IsReady t s
    pub own : All (IsHomeOf t) homes

  -- The receipts of seats with one share each that came back, those of each of one actor, stand after its own.
  pub record HasBack (s u : Seat V) : Type 0 where
    pub lists : List (List (ℕ × Record V))
    pub own : All IsOfOne lists
    pub shares : (view u).shares ≡ (view s).shares + length lists
    pub gains : (view u).receipts ≡ (view s).receipts ++ joined lists
    pub last : s.last ≤ u.last
    pub asked : requests_of u ≡ requests_of s

  -- Some clients were taken back. The receipts are those that the lender had and, after them, a list for each share that came back, of one
  -- actor each. Nothing else has changed, but perhaps the last number, which is no lower.
  pub record HasTakenBack (before after : LenderShown V) : Type 0 where
    pub lists : List (List (ℕ × Record V))
    pub own : All IsOfOne lists
    pub shares : after.shares ≡ before.shares + length lists
    pub gains : after.store.receipts ≡ before.store.receipts ++ joined lists
    pub last : before.store.last ≤ after.store.last
    pub number : after.store.number ≡ before.store.number
    pub opening : after.store.opening ≡ before.store.opening
    pub asked : after.store.asked ≡ before.store.asked
    pub tally : after.store.tally ≡ before.store.tally
