-- A seat with the actor that runs there, between its requests, and what a call and a commit leave of it.
use Rattle.std.specs.Prelude.{◌≡◌, ◌⊎◌, ℕ, ◌<◌, ◌≤◌, true, [], Err, IfErr, IfOk, Result}
use Rattle.seq_model.specs.declared.call.Call.{Call}
use Rattle.seq_model.specs.declared.call.Reply.{Reply}
use Rattle.seq_model.specs.declared.event.Request.TheVariants as request
use Rattle.seq_model.specs.declared.record.Record.{Record}
use Rattle.seq_model.specs.declared.refusal.Refusal.{Refusal}
use Rattle.seq_model.specs.declared.refusal.Refusal.TheVariants.{NoTransaction}
use Rattle.replay_log.specs.WorldProgress.{AreSmall}
use Rattle.tx_actor.specs.declared.actor.TxActor.{TxActor}
use Rattle.shared_table.specs.declared.seat.Seat.{Seat}
use Rattle.shared_table.specs.declared.table.TxTable.{TxTable}
use Rattle.shared_table.specs.Seated.{Owns, blocks_in, list_of, opening_of, out, view}
use Rattle.shared_table.specs.Shown.{IsReached}
use Rattle.tx_turns.specs.Ties.{Ties}
use Rattle.tx_turns.specs.Own.{HasOwn}
use Rattle.actor_laws.specs.KnownStages.{Rests}
use Rattle.tx_engine.specs.declared.seats.TxSeat.{TxSeat}
pub use Rattle.tx_turns.specs.Driven.{standing}
use Rattle.tx_turns.specs.Begins.{begins_of}
use Rattle.tx_turns.specs.Driven.{seat_in}
use Rattle.tx_engine.specs.Requests.{CallsTo, CommitsTo, HasAskedFor, IsCallRefusal, IsOpen}

module _ {V : Type 0} where
  -- a live seat of the table whose actor has asked nothing so far
  pub record IsNew (t : TxTable V) (s : Seat V) : Type 0 where
    pub owns : Owns t s
    pub live : 0 < (view s).shares
    pub turns : (view s).turns ≡ []
    pub outs : out s ≡ []
    pub asked : list_of s.asked ≡ []

  -- A table that has opened: its opening is a world that events reach, and none of its collections has more locations than a set takes.
  pub record HasOpened (t : TxTable V) : Type 0 where
    pub small : AreSmall (blocks_in t)
    pub opening : (a : ℕ) → IsReached (opening_of t) a (opening_of t)

  -- The seat drives requests of the actor: it runs it, with no base in hand, and none of the table's collections has more locations than a
  -- set takes.
  pub record CanDrive (t : TxTable V) (s : Seat V) (r : TxActor V) : Type 0 where
    pub ties : Ties t s r
    pub own : HasOwn t s r []
    pub small : AreSmall (blocks_in t)

  -- No request is under way: there is no transaction, or one is open. No gate is held, and no base is out.
  pub record IsReady (t : TxTable V) (s : TxSeat V) : Type 0 where
    pub table : HasOpened t
    pub ties : Ties t s.seat s.actor
    pub own : HasOwn t s.seat s.actor []
    pub between : (standing (opening_of t) s.seat ≡ Rests) ⊎ IsOpen (opening_of t) s.seat

  -- An open transaction has begun at a number that is no lower than the last number of its seat, and no higher than the clock that it
  -- knows.
  abbrev pub HasBegunSince : TxTable V → TxSeat V → Type 0
  HasBegunSince t s =
      IsOpen (opening_of t) s.seat
      → (s.seat.last ≤ (seat_in (opening_of t) s.seat).rv) × ((seat_in (opening_of t) s.seat).rv ≤ (view s.seat).clock)

  -- The seat s, at which a call was made, is u now: an open transaction has made it, or was refused it, and nothing else was asked of its
  -- actor; where there is none it is refused as such, and the seat is as it was. None is begun.
  pub record HasCalled (t : TxTable V) (s u : TxSeat V) (call : Call V) (r : Result (Reply V) Refusal) : Type 0 where
    pub ready : IsReady t u
    pub since : HasBegunSince t u
    pub calls : IsOpen (opening_of t) s.seat → CallsTo (opening_of t) s.seat call u.seat r
    pub kinds : IfErr r (IsCallRefusal call.op)
    pub begins : begins_of u.seat ≡ begins_of s.seat
    pub asks : IsOpen (opening_of t) s.seat → HasAskedFor s.seat (request.Call call) r u.seat
    pub none : standing (opening_of t) s.seat ≡ Rests → (r ≡ Err NoTransaction) × (u ≡ s)

  -- The seat s, which was to commit, is u now, ready and without a transaction. Where it has a receipt more, its number is the last one of
  -- the seat; where there was no transaction it is refused as such, and the seat is as it was. None is begun, and of the actor of an open
  -- one nothing but the commit was asked.
  pub record HasFinished (t : TxTable V) (s u : TxSeat V) (r : Result (Record V) Refusal) : Type 0 where
    pub ready : IsReady t u
    pub rests : standing (opening_of t) u.seat ≡ Rests
    pub commits : CommitsTo (opening_of t) s.seat u.seat r
    pub above : IfOk r (λ receipt. receipt.writes ≡ true → s.seat.last < receipt.number)
    pub last : IfOk r (λ receipt. (s.seat.last ≤ receipt.number) × (u.seat.last ≡ receipt.number))
    pub begins : begins_of u.seat ≡ begins_of s.seat
    pub asks : IsOpen (opening_of t) s.seat → HasAskedFor s.seat request.Commit r u.seat
    pub none : standing (opening_of t) s.seat ≡ Rests → (r ≡ Err NoTransaction) × (u ≡ s)
