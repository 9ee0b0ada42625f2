-- What is known of a transaction, or of a client, by its scope: its table, and the seat as it was when it began.
use Rattle.std.specs.Prelude.{◌≡◌, ℕ, ◌≤◌, All, Bool, true, List, [], ◌++◌, Option, Some, None, IfSome, drop, length}
use Rattle.seq_model.specs.declared.call.Call.{Call}
use Rattle.seq_model.specs.declared.call.Reply.{Reply}
use Rattle.seq_model.specs.declared.record.Record.{Record}
use Rattle.replay_log.specs.Seats.{World}
use Rattle.actor_laws.specs.KnownStages.{KnownStage, Rests, Begins, Stands, Calls, Commits, Committed, Ends}
use Rattle.shared_table.specs.declared.seat.Seat.{Seat}
use Rattle.shared_table.specs.declared.table.TxTable.{TxTable}
use Rattle.shared_table.specs.Seated.{actor, opening_of, view}
use Rattle.tx_engine.specs.declared.seats.TxSeat.{TxSeat}
use Rattle.tx_engine.specs.Ready.{HasBegunSince, IsReady, standing}
use Rattle.tx_turns.specs.Driven.{is_declared}
use Rattle.tx_turns.specs.RequestHistory.{requests_of}
use Rattle.tx_engine.specs.Requests.{KeepsReceipts}
use Rattle.tx_client.specs.RequestKinds.{HasAsked}
use Rattle.tx_handles.specs.MadeCall.{TransactionShown}

module _ (V : Type 0) where
  -- a table, and the seat as it was when the transaction, or the client, began
  pub record Frame : Type 0 where
    pub table : TxTable V
    pub begun : Option (TxSeat V)

module _ {V : Type 0} where
  -- the receipts of a seat
  abbrev pub receipts_at : Option (TxSeat V) → List (ℕ × Record V)
  receipts_at (Some s) = (view s.seat).receipts
  receipts_at None = []

  -- those that the seat of a client had when the client began; where nothing is known of that, none
  abbrev pub earlier : Option (Frame V) → List (ℕ × Record V)
  earlier (Some f) = receipts_at f.begun
  earlier None = []

  -- those that have come since, which are the client's
  abbrev pub later : Option (Frame V) → List (ℕ × Record V) → List (ℕ × Record V)
  later f rs = drop (length (earlier f)) rs

  -- the calls of a transaction that stands so; where there is none, none
  abbrev pub calls_of : KnownStage V → List (Call V × Reply V)
  calls_of (Stands calls) = calls
  calls_of Rests = []
  calls_of Begins = []
  calls_of (Calls calls call) = []
  calls_of (Commits calls) = []
  calls_of Committed = []
  calls_of Ends = []

  -- the calls that the open transaction of a seat has made; where none is open, none
  abbrev pub calls_made : World V → Seat V → List (Call V × Reply V)
  calls_made o s = calls_of (standing o s)

  -- what contracts see of a transaction at a store with this number
  abbrev pub transaction_at : ℕ → World V → Seat V → TransactionShown V
  transaction_at store o s = record { store = store; calls = calls_made o s }

  -- by calls alone, none of which has gained a receipt; a declared reader remains one
  pub record HasMadeCalls (o : World V) (m s : Seat V) : Type 0 where
    pub keeps : KeepsReceipts m s
    pub asks : (declared : Bool) → HasAsked declared (requests_of m) (requests_of s)
    pub reader : is_declared o m ≡ true → is_declared o s ≡ true

  -- at the table of the frame, by calls since the seat that it began with
  pub record IsIn (t : TxTable V) (s : TxSeat V) (f : Frame V) : Type 0 where
    pub table : t ≡ f.table
    pub since : IfSome f.begun (λ m. HasMadeCalls (opening_of f.table) m.seat s.seat)

  -- a transaction, between two of its calls, also one that has ended
  pub record IsUnderWay (f : Option (Frame V)) (t : TxTable V) (s : TxSeat V) : Type 0 where
    pub ready : IsReady t s
    pub since : HasBegunSince t s
    pub framed : IfSome f (IsIn t s)

  -- a seat of the same actor, with as many shares, which knows no lower number
  pub record GoesOn (m s : Seat V) : Type 0 where
    pub same : actor s ≡ actor m
    pub shares : (view s).shares ≡ (view m).shares
    pub last : m.last ≤ s.last

  -- at the table of the frame, by the seat that it began with
  pub record IsOfSeat (t : TxTable V) (s : TxSeat V) (f : Frame V) : Type 0 where
    pub table : t ≡ f.table
    pub since : IfSome f.begun (λ m. GoesOn m.seat s.seat)

  -- receipts of this actor
  abbrev pub AreBy : ℕ → List (ℕ × Record V) → Type 0
  AreBy a rs = All (λ (r : ℕ × Record V). r.0 ≡ a) rs

  -- a seat that has the receipts that it had when its client began, and then those of the client, which are its own actor's
  pub record HasGrown (f : Option (Frame V)) (s : Seat V) : Type 0 where
    pub gains : (view s).receipts ≡ earlier f ++ later f (view s).receipts
    pub own : AreBy (actor s) (later f (view s).receipts)

  -- a client, between two of its transactions
  pub record IsClient (f : Option (Frame V)) (t : TxTable V) (s : TxSeat V) : Type 0 where
    pub ready : IsReady t s
    pub framed : IfSome f (IsOfSeat t s)
    pub grown : HasGrown f s.seat

  -- what a client gives back is the seat that it began with, ready at its table
  pub record ComesBack (s : TxSeat V) (f : Frame V) : Type 0 where
    pub ready : IsReady f.table s
    pub since : IfSome f.begun (λ m. GoesOn m.seat s.seat)
