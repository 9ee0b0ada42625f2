-- The result of a whole request: a begin, a call, a commit, an end.
use Rattle.std.specs.Prelude.{◌≡◌, ◌⊎◌, ℕ, ◌≤◌, Bool, true, false, List, [], ◌∷◌, ◌++◌, Option, Some, None}
use Rattle.std.specs.Prelude.{Result, Ok, Err, IfOk, IfErr, OnErr}
use Rattle.tx_sets.specs.Entries.{Entries}
use Rattle.seq_model.specs.declared.call.Call.{Call}
use Rattle.seq_model.specs.declared.call.Op.{Op}
use Rattle.seq_model.specs.declared.call.Reply.{Reply}
use Rattle.seq_model.specs.declared.event.Answer.TheVariants as answer
use Rattle.seq_model.specs.declared.event.Request.{Request}
use Rattle.seq_model.specs.declared.event.Request.TheVariants as request
use Rattle.seq_model.specs.declared.record.Record.{Record}
use Rattle.seq_model.specs.declared.refusal.Refusal.{Refusal}
use Rattle.seq_model.specs.declared.refusal.Refusal.TheVariants.{Moved, Busy, Stale, GateBusy}
use Rattle.seq_model.specs.declared.refusal.Refusal.TheVariants.{Invalid, Memory as OutOfMemory, NoSuch, TooLong}
use Rattle.seq_model.specs.declared.refusal.Refusal.TheVariants.{NoTransaction}
use Rattle.replay_log.specs.Seats.{World, actor_of}
use Rattle.replay_log.specs.WorldAnswers.{IsAdmitted}
use Rattle.tx_actor.specs.declared.actor.ActorNotice.{ActorNotice}
use Rattle.tx_actor.specs.declared.actor.ActorNotice.TheVariants as told
use Rattle.shared_table.specs.declared.seat.Seat.{Seat}
use Rattle.shared_table.specs.Seated.{IsSameSeat, actor, acts, out, view}
use Rattle.shared_table.specs.declared.view.Turn.{Turn}
use Rattle.tx_turns.specs.RequestStep.{Answers}
use Rattle.actor_laws.specs.KnownStages.{Rests, Stands, Calls, IsMistaken}
use Rattle.tx_turns.specs.Driven.{Driven, HasFound, HasTold, IsExhausted, IsLoading, IsNumberOf, IsOnCollection, is_declared, seat_in}
use Rattle.tx_turns.specs.Driven.{aborted_for, standing}
use Rattle.tx_turns.specs.RequestHistory.{requests_of}

-- there is some entry
abbrev pub has_some : Entries → Bool
has_some [] = false
has_some (e ∷ es) = true

-- So a call may be refused. The write of a word loads nothing; and what is stale, or has a gate, is a collection.
unfoldable pub IsCallRefusal : {V : Type 0} → Op V → Refusal → Type 0
IsCallRefusal op NoTransaction = Unit {0}
IsCallRefusal op NoSuch = Unit {0}
IsCallRefusal op TooLong = Unit {0}
IsCallRefusal op (Moved l word) = IsLoading op
IsCallRefusal op (Stale l base word) = IsOnCollection op
IsCallRefusal op (GateBusy k) = IsOnCollection op
IsCallRefusal op OutOfMemory = Unit {0}
IsCallRefusal op cause = ⊥

-- and so a commit
unfoldable pub IsCommitRefusal : Refusal → Type 0
IsCommitRefusal NoTransaction = Unit {0}
IsCommitRefusal (Busy l word) = Unit {0}
IsCommitRefusal (Invalid l word) = Unit {0}
IsCommitRefusal (GateBusy k) = Unit {0}
IsCommitRefusal OutOfMemory = Unit {0}
IsCommitRefusal cause = ⊥

module _ {V : Type 0} where
  -- a transaction is open, and has made some calls
  abbrev pub IsOpen : World V → Seat V → Type 0
  IsOpen o s = (calls : List (Call V × Reply V)) × (standing o s ≡ Stands calls)

  -- The seat is the same one, with the same shares, and neither receipts nor bases were gained, nor was a seat joined into it. It has taken
  -- these turns, has loaded the clock at no others, and knows no lower one.
  pub record KeepsReceipts (s u : Seat V) : Type 0 where
    pub seat : IsSameSeat s u
    pub shares : (view u).shares ≡ (view s).shares
    pub receipts : (view u).receipts ≡ (view s).receipts
    pub joined : (view u).joined ≡ (view s).joined
    pub looks : (view u).looks ≡ (view s).looks
    pub outs : out u ≡ out s
    pub rises : (view s).clock ≤ (view u).clock
    pub more : List (Turn V)
    pub turns : (view u).turns ≡ (view s).turns ++ more

  -- The seat has loaded the clock once beside its turns, and knows it. It is no lower, and nothing else of the seat or of the world with
  -- its actor alone has changed, but perhaps its last number; and nothing was asked.
  pub record OnlyKnows (o : World V) (s u : Seat V) : Type 0 where
    pub seat : (u.place.table_id ≡ s.place.table_id) × (actor u ≡ actor s)
    pub shares : (view u).shares ≡ (view s).shares
    pub receipts : (view u).receipts ≡ (view s).receipts
    pub joined : (view u).joined ≡ (view s).joined
    pub turns : (view u).turns ≡ (view s).turns
    pub outs : out u ≡ out s
    pub looks : (view u).looks ≡ (view s).looks ++ (view u).clock ∷ []
    pub rises : (view s).clock ≤ (view u).clock
    pub own : acts o u ≡ acts o s
    pub asks : requests_of u ≡ requests_of s

  -- ---- what its actor is asked
  -- Between the seats s and u it was asked this and nothing else; or an allocation failed for it, and it was asked to abort in its place.
  unfoldable pub HasAskedFor : {A : Type 0} → Seat V → Request V → Result A Refusal → Seat V → Type 0
  HasAskedFor s q r u =
      (requests_of u ≡ requests_of s ++ q ∷ [])
      ⊎ ((r ≡ Err OutOfMemory) × (requests_of u ≡ requests_of s ++ request.Abort ∷ []))

  -- a declared reader begins by the one, and any other by the other
  abbrev pub begin_request : Bool → Request V
  begin_request true = request.BeginRead
  begin_request false = request.Begin

  -- It was asked to begin and nothing else, but where a transaction was open, to abort that first.
  unfoldable pub HasAskedToBegin : Bool → World V → Seat V → Seat V → Type 0
  HasAskedToBegin declared o s u =
      (IsOpen o s → requests_of u ≡ requests_of s ++ request.Abort ∷ begin_request declared ∷ [])
      × (standing o s ≡ Rests → requests_of u ≡ requests_of s ++ begin_request declared ∷ [])

  -- ---- a begin
  -- It answers the number at which the transaction has begun, which is open and has no calls, and is a declared reader's or not. It is the
  -- clock that the seat knows by then, which is no lower than the one that it knew. One of its turns has answered it.
  pub record IsBegun (declared : Bool) (o : World V) (s u : Seat V) (rv : ℕ) : Type 0 where
    pub stands : standing o u ≡ Stands []
    pub declares : is_declared o u ≡ declared
    pub began : (seat_in o u).rv ≡ rv
    pub clock : rv ≡ (view u).clock
    pub rises : (view s).clock ≤ rv
    pub told : HasTold o s u (told.Answered (answer.Begun rv))

  -- or a step of its own found the clock at its limit, and there is no transaction
  abbrev pub IsNotBegun : World V → Seat V → Seat V → Refusal → Type 0
  IsNotBegun o s u cause = (standing o u ≡ Rests) × IsExhausted o s u cause

  -- the answer of one with this result
  abbrev pub begin_of : Result ℕ Refusal → ActorNotice V
  begin_of (Ok rv) = told.Answered (answer.Begun rv)
  begin_of (Err cause) = told.Refused cause

  abbrev pub IsBeginTold : ActorNotice V → Type 0
  IsBeginTold (told.Answered (answer.Begun rv)) = Unit {0}
  IsBeginTold (told.Refused cause) = Unit {0}
  IsBeginTold n = ⊥

  abbrev pub BeginsTo : Bool → World V → Seat V → Seat V → ActorNotice V → Type 0
  BeginsTo declared o s u (told.Answered (answer.Begun rv)) = IsBegun declared o s u rv
  BeginsTo declared o s u (told.Refused cause) = IsNotBegun o s u cause
  BeginsTo declared o s u n = ⊥

  -- ---- an abort
  -- one of its turns answered that it was aborted, as its actor asked
  abbrev pub HasAborted : World V → Seat V → Seat V → Type 0
  HasAborted o s u = HasTold o s u (told.Answered answer.Aborted)

  -- ---- a call, or a commit, that ends its transaction
  -- Out of memory: one of its own turns answered so; or an allocation failed as the request was asked, and the transaction was aborted.
  abbrev pub WantedMemory : World V → Seat V → Seat V → Refusal → Type 0
  WantedMemory o s u cause = (cause ≡ OutOfMemory) × (HasTold o s u (told.Refused OutOfMemory) ⊎ HasAborted o s u)

  -- one of its own turns found this cause, and one of them answered it; or an allocation failed
  abbrev pub IsFoundAndTold : World V → Seat V → Seat V → Refusal → Type 0
  IsFoundAndTold o s u cause = (HasFound o s u cause × HasTold o s u (told.Refused cause)) ⊎ WantedMemory o s u cause

  -- The world with the actor of u alone has one aborted transaction more than that of s: that of s, for this cause, or as its actor asked.
  abbrev pub IsLastAborted : World V → Seat V → Seat V → Option Refusal → Type 0
  IsLastAborted o s u cause = (acts o u).aborted ≡ (acts o s).aborted ++ aborted_for o s cause ∷ []

  -- or it has the same
  abbrev pub HasSameAborted : World V → Seat V → Seat V → Type 0
  HasSameAborted o s u = (acts o u).aborted ≡ (acts o s).aborted

  -- for this cause; or an allocation failed as the request was asked, and the transaction was aborted
  abbrev pub IsAbortedFor : World V → Seat V → Seat V → Refusal → Type 0
  IsAbortedFor o s u cause = IsLastAborted o s u (Some cause) ⊎ ((cause ≡ OutOfMemory) × IsLastAborted o s u None)

  -- and there is no transaction any more
  abbrev pub IsEnded : World V → Seat V → Seat V → Refusal → Type 0
  IsEnded o s u cause = (standing o u ≡ Rests) × IsFoundAndTold o s u cause

  -- ---- a call
  -- the answer of one with this result
  abbrev pub told_of : Result (Reply V) Refusal → ActorNotice V
  told_of (Ok reply) = told.Answered (answer.Replied reply)
  told_of (Err cause) = told.Refused cause

  abbrev pub IsCallTold : ActorNotice V → Type 0
  IsCallTold (told.Answered (answer.Replied reply)) = Unit {0}
  IsCallTold (told.Refused cause) = Unit {0}
  IsCallTold n = ⊥

  -- a call that is answered joins those before it with its reply; one that is mistaken leaves the transaction as it was; or it ends it
  abbrev pub CallLeaves : World V → Seat V → List (Call V × Reply V) → Call V → Seat V → Result (Reply V) Refusal → Type 0
  CallLeaves o s calls call u (Ok reply) = standing o u ≡ Stands (calls ++ (call, reply) ∷ [])
  CallLeaves o s calls call u (Err cause) = ((standing o u ≡ Stands calls) × IsMistaken cause) ⊎ IsEnded o s u cause

  -- an allocation fails, and the request is admitted there, in the world with the seat's actor alone
  abbrev pub IsUnserved : World V → Seat V → Request V → ActorNotice V → Type 0
  IsUnserved o s q n = (n ≡ told.Refused OutOfMemory) × IsAdmitted (acts o s) (actor s) q

  -- the definitions answer it so at once, in the world with the seat's actor alone, or one of its turns does; or an allocation fails
  abbrev pub IsAnswered : World V → Seat V → Request V → Seat V → ActorNotice V → Type 0
  IsAnswered o s q u n = Answers o s q n ⊎ ((Answers o s q told.Quiet × HasTold o s u n) ⊎ IsUnserved o s q n)

  -- a call is under way
  abbrev pub IsCalling : World V → Seat V → Type 0
  IsCalling o s = (calls : List (Call V × Reply V)) × ((call : Call V) × (standing o s ≡ Calls calls call))

  -- its turns end with this
  abbrev pub IsDriven : World V → Seat V → Seat V → ActorNotice V → Type 0
  IsDriven o s u n = (d : Option (Record V)) × Driven o s u n d

  -- The result of a call, whatever was called before. Where a transaction is open after it, it has begun at the same number, and none was
  -- aborted; a declared reader is still one.
  pub record CallsTo (o : World V) (s : Seat V) (call : Call V) (u : Seat V) (r : Result (Reply V) Refusal) : Type 0 where
    pub keeps : KeepsReceipts s u
    pub leaves : (calls : List (Call V × Reply V)) → standing o s ≡ Stands calls → CallLeaves o s calls call u r
    pub answered : IsAnswered o s (request.Call call) u (told_of r)
    pub kinds : IfErr r (IsCallRefusal call.op)
    pub aborted : standing o u ≡ Rests → IfErr r (IsAbortedFor o s u)
    pub same : IsOpen o u → HasSameAborted o s u
    pub began : IsOpen o u → (seat_in o u).rv ≡ (seat_in o s).rv
    pub reader : is_declared o s ≡ true → is_declared o u ≡ true

  -- ---- a commit
  -- whether the transaction has written
  abbrev pub has_written : World V → Seat V → Bool
  has_written o s = has_some (actor_of (acts o s) (actor s)).writes

  -- a commit without a receipt is refused
  abbrev pub IsCommitTold : ActorNotice V → Option (Record V) → Type 0
  IsCommitTold n (Some r) = Unit {0}
  IsCommitTold (told.Refused cause) None = Unit {0}
  IsCommitTold n None = ⊥

  -- The seat has this receipt more, and no transaction; the number that is answered is the receipt's.
  pub record HasCommitted (o : World V) (s u : Seat V) (r : Record V) : Type 0 where
    pub seat : (u.place.table_id ≡ s.place.table_id) × (actor u ≡ actor s)
    pub shares : (view u).shares ≡ (view s).shares
    pub receipts : (view u).receipts ≡ (view s).receipts ++ (actor s, r) ∷ []
    pub joined : (view u).joined ≡ (view s).joined
    pub looks : (view u).looks ≡ (view s).looks
    pub outs : out u ≡ out s
    pub rises : (view s).clock ≤ (view u).clock
    pub rests : standing o u ≡ Rests
    pub told : HasTold o s u (told.Answered (answer.Committed r.number))

  -- The result of a commit: the seat has the one receipt more that it gives, with the calls that were made; or it has none more, for a
  -- cause that has ended the transaction. A declared reader has written nothing.
  pub record CommitsTo (o : World V) (s u : Seat V) (r : Result (Record V) Refusal) : Type 0 where
    pub committed : IfOk r (HasCommitted o s u)
    pub calls : IfOk r (λ receipt. standing o s ≡ Stands receipt.calls)
    pub writes : IfOk r (λ receipt. receipt.writes ≡ has_written o s)
    pub reader : IfOk r (λ receipt. is_declared o s ≡ true → receipt.writes ≡ false)
    pub number : IfOk r (IsNumberOf (seat_in o s).rv (view u).clock)
    pub keeps : OnErr r (KeepsReceipts s u)
    pub ended : IfErr r (λ cause. IsOpen o s → IsEnded o s u cause)
    pub aborted : IfErr r (λ cause. IsOpen o s → IsAbortedFor o s u cause)
    pub same : IfOk r (λ receipt. HasSameAborted o s u)
    pub kinds : IfErr r IsCommitRefusal
