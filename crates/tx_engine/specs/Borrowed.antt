-- A transaction that borrows its seat: how it begins there, and how an abort leaves the seat.
use Rattle.std.specs.Prelude.{◌≡◌, ℕ, ◌+◌, ◌≤◌, [], ◌∷◌, ◌++◌, Bool, IfErr, None, Result}
use Rattle.seq_model.specs.declared.event.Request.TheVariants as request
use Rattle.seq_model.specs.declared.refusal.Refusal.{Refusal}
use Rattle.replay_log.specs.Seats.{World}
use Rattle.shared_table.specs.declared.table.TxTable.{TxTable}
use Rattle.shared_table.specs.Seated.{opening_of}
use Rattle.actor_laws.specs.KnownStages.{Rests}
use Rattle.tx_turns.specs.Begins.{begins_of}
use Rattle.tx_turns.specs.Driven.{standing}
use Rattle.tx_turns.specs.RequestHistory.{requests_of}
use Rattle.tx_engine.specs.declared.seats.TxSeat.{TxSeat}
use Rattle.tx_engine.specs.Ready.{IsReady}
use Rattle.tx_engine.specs.Requests.{HasAborted, HasAskedToBegin, HasSameAborted, IsBegun, IsLastAborted, IsNotBegun, IsOpen, KeepsReceipts}

module _ {V : Type 0} where
  -- It is open, has no calls, and is a declared reader's or not; it has begun at the clock that its seat knows by then, which is no lower
  -- than the seat's last number. The seat asked no other to begin; one that was left open was aborted, and is the last aborted one of the
  -- world with the seat's actor alone; where none was, that world has the same aborted ones. Nothing else was asked.
  pub record IsBegunSince (declared : Bool) (o : World V) (s u : TxSeat V) : Type 0 where
    pub rv : ℕ
    pub begun : IsBegun declared o s.seat u.seat rv
    pub last : s.seat.last ≤ rv
    pub begins : begins_of u.seat ≡ begins_of s.seat + 1
    pub asks : HasAskedToBegin declared o s.seat u.seat
    pub aborted : IsOpen o s.seat → HasAborted o s.seat u.seat
    pub noted : IsOpen o s.seat → IsLastAborted o s.seat u.seat None
    pub same : standing o s.seat ≡ Rests → HasSameAborted o s.seat u.seat

  -- There is none, and the seat that was lent is ready again, with its receipts. It asked one to begin, a declared reader or not; one that
  -- was left open was aborted, and where none was, there are the same aborted ones. Nothing else was asked.
  pub record IsRefusedBegin {A : Type 0} (declared : Bool) (t : TxTable V) (s : TxSeat V) (r : Result A Refusal) (u : TxSeat V)
      : Type 0 where
    pub ready : IsReady t u
    pub keeps : KeepsReceipts s.seat u.seat
    pub refused : IfErr r (IsNotBegun (opening_of t) s.seat u.seat)
    pub begins : begins_of u.seat ≡ begins_of s.seat + 1
    pub asks : HasAskedToBegin declared (opening_of t) s.seat u.seat
    pub aborted : IsOpen (opening_of t) s.seat → HasAborted (opening_of t) s.seat u.seat
    pub noted : IsOpen (opening_of t) s.seat → IsLastAborted (opening_of t) s.seat u.seat None
    pub same : standing (opening_of t) s.seat ≡ Rests → HasSameAborted (opening_of t) s.seat u.seat

  -- The seat is ready again, has its receipts, and no transaction is open there. One that was open was aborted, and is the last aborted one
  -- of the world with its actor alone; that it abort was asked, and nothing else. Where none was open, the seat is as it was.
  pub record IsAborted (t : TxTable V) (s u : TxSeat V) : Type 0 where
    pub ready : IsReady t u
    pub rests : standing (opening_of t) u.seat ≡ Rests
    pub keeps : KeepsReceipts s.seat u.seat
    pub aborted : IsOpen (opening_of t) s.seat → HasAborted (opening_of t) s.seat u.seat
    pub noted : IsOpen (opening_of t) s.seat → IsLastAborted (opening_of t) s.seat u.seat None
    pub none : standing (opening_of t) s.seat ≡ Rests → u ≡ s
    pub begins : begins_of u.seat ≡ begins_of s.seat
    pub asks : IsOpen (opening_of t) s.seat → requests_of u.seat ≡ requests_of s.seat ++ request.Abort ∷ []
