-- The result of an attempt of a job.
use Rattle.std.specs.Prelude.{◌≡◌, ◌⊎◌, ℕ, ◌+◌, ◌<◌, ◌≤◌, true, false, List, [], ◌∷◌, ◌++◌, Option, Some, None, Result, Ok, Err}
use Rattle.std.proofs.Common.{inl, inr}
use Rattle.seq_model.specs.declared.call.Call.{Call}
use Rattle.seq_model.specs.declared.call.Reply.{Reply}
use Rattle.seq_model.specs.declared.record.Record.{Record}
use Rattle.seq_model.specs.declared.refusal.Refusal.{Refusal}
use Rattle.seq_model.specs.declared.refusal.Refusal.TheVariants.{Memory as OutOfMemory}
use Rattle.seq_model.specs.Runs.{is_writer}
use Rattle.replay_log.specs.Seats.{Ended, World}
use Rattle.seq_model.specs.declared.job.Ask.{Ask}
use Rattle.seq_model.specs.declared.job.Ask.TheVariants as ask
use Rattle.seq_model.specs.Programs.{replies_of}
use Rattle.shared_table.specs.declared.seat.Seat.{Seat}
use Rattle.shared_table.specs.Seated.{actor, acts, view}
use Rattle.actor_laws.specs.KnownStages.{IsMistaken, Rests, Stands}
use Rattle.tx_turns.specs.Begins.{begins_of}
use Rattle.tx_turns.specs.Driven.{aborted_for}
use Rattle.tx_engine.specs.Ready.{standing}
use Rattle.tx_engine.specs.Requests.{CallsTo, HasAborted, HasCommitted, IsBegun, IsCommitRefusal, IsEnded, IsNotBegun, IsOpen}
use Rattle.tx_engine.specs.Requests.{KeepsReceipts, has_written}
use Rattle.tx_engine.specs.Jobs.{AreAskedBy, IsWholeJob}
use Rattle.tx_engine.specs.declared.attempts.Attempt.{Attempt}
use Rattle.tx_engine.specs.declared.attempts.Attempt.TheVariants.{Committed, GivenUp}
use Rattle.tx_engine.specs.declared.attempts.End.{End}
use Rattle.tx_engine.specs.declared.attempts.End.TheVariants as ends

module _ {V : Type 0} (o : World V) where
  -- The aborted transactions of the world with the actor of u alone are those of that of s; then the one that was open at s, if one was, as
  -- its actor asked; and then these.
  abbrev pub Aborts : Seat V → Seat V → List (Ended V) → Type 0
  Aborts s u es =
      (IsOpen o s → (acts o u).aborted ≡ (acts o s).aborted ++ aborted_for o s None ∷ es)
      × (standing o s ≡ Rests → (acts o u).aborted ≡ (acts o s).aborted ++ es)

  -- Between the seat s and the seat m one transaction has begun, and it may write: its begin led to the first of these seats, and was
  -- answered with this number. All turns since then are its own.
  pub record HasBegun (s m : Seat V) : Type 0 where
    pub once : begins_of m ≡ begins_of s + 1
    pub first : Seat V
    pub number : ℕ
    pub begun : IsBegun false o s first number
    pub asked : begins_of first ≡ begins_of s + 1
    pub since : KeepsReceipts first m
    pub aborts : Aborts s first []

  -- The world with the actor of u alone has one aborted transaction more than that of s, beside the one that was open at s, if one was: the
  -- seat's own, with these calls, and with this cause, or none where its actor asked for the abort.
  pub record GainsAborted (s u : Seat V) (calls : List (Call V × Reply V)) (cause : Option Refusal) : Type 0 where
    pub number : ℕ
    pub gained : Aborts s u (record { actor = actor s; rv = number; calls = calls; cause = cause } ∷ [])

  -- It was aborted for this cause. Or its actor asked for the abort: after a refusal that leaves a transaction open, or where an allocation
  -- failed.
  abbrev pub GainsAbortedFor : Seat V → Seat V → List (Call V × Reply V) → Refusal → Type 0
  GainsAbortedFor s u calls cause =
      GainsAborted s u calls (Some cause) ⊎ ((IsMistaken cause ⊎ (cause ≡ OutOfMemory)) × GainsAborted s u calls None)

module _ {V : Type 0} (asks : List (Reply V) → Ask V → Type 0) (o : World V) where
  -- ---- on the way
  -- The seat s has led to the seat m, and gained no receipt. Its transaction is open there, with these calls, each of which the job has
  -- asked; after the replies to them it asks this. These transactions are the aborted ones of the world with its actor alone.
  pub record IsAt (aborted : List (Ended V)) (s m : Seat V) (calls : List (Call V × Reply V)) (next : Ask V) : Type 0 where
    pub keeps : KeepsReceipts s m
    pub aborts : (acts o m).aborted ≡ aborted
    pub stands : standing o m ≡ Stands calls
    pub each : AreAskedBy asks calls
    pub asked : asks (replies_of calls) next

  -- the transaction is open, with calls that the job has asked, and these are the replies to them
  pub record IsSoFar (m : Seat V) (replies : List (Reply V)) : Type 0 where
    pub calls : List (Call V × Reply V)
    pub stands : standing o m ≡ Stands calls
    pub each : AreAskedBy asks calls
    pub replies_are : replies ≡ replies_of calls

  abbrev pub ask_of : End → Ask V
  ask_of ends.Done = ask.Done
  ask_of ends.GivenUp = ask.GiveUp

  -- the job has reached its end
  abbrev pub Reaches : List (Ended V) → Seat V → Seat V → End → Type 0
  Reaches aborted s m e = (calls : List (Call V × Reply V)) × IsAt aborted s m calls (ask_of e)

  -- ---- what is refused
  -- a call that the job asked was refused so, which left the seat m
  pub record IsCallRefused (aborted : List (Ended V)) (s m : Seat V) (cause : Refusal) : Type 0 where
    pub calls : List (Call V × Reply V)
    pub call : Call V
    pub before : Seat V
    pub at : IsAt aborted s before calls (ask.Call call)
    pub refused : CallsTo o before call m (Err cause)

  -- An allocation failed in the job, or for its replies. The seat s has led to the seat m, and gained no receipt. Its transaction is open
  -- there, with these calls, each of which the job has asked. These transactions are the aborted ones of the world with its actor alone.
  pub record IsStarved (aborted : List (Ended V)) (s m : Seat V) (cause : Refusal) : Type 0 where
    pub memory : cause ≡ OutOfMemory
    pub keeps : KeepsReceipts s m
    pub aborts : (acts o m).aborted ≡ aborted
    pub calls : List (Call V × Reply V)
    pub stands : standing o m ≡ Stands calls
    pub each : AreAskedBy asks calls

  -- a call was refused so, or an allocation failed in the job or for its replies
  abbrev pub IsUnmade : List (Ended V) → Seat V → Seat V → Refusal → Type 0
  IsUnmade aborted s m cause = IsCallRefused aborted s m cause ⊎ IsStarved aborted s m cause

  -- the calls that the transaction had made
  abbrev pub calls_of : (aborted : List (Ended V)) (s m : Seat V) (cause : Refusal) → IsUnmade aborted s m cause
      → List (Call V × Reply V)
  calls_of aborted s m cause (inl refused) = refused.calls
  calls_of aborted s m cause (inr starved) = starved.calls

  -- So it was, which left a seat; a transaction that was open there was then aborted, as one of its turns answered.
  pub record IsBrokenOff (s u : Seat V) (cause : Refusal) : Type 0 where
    pub left : Seat V
    pub begun : HasBegun o s left
    pub unmade : IsUnmade (acts o begun.first).aborted s left cause
    pub keeps : KeepsReceipts left u
    pub aborted : IsOpen o left → HasAborted o left u
    pub gains : GainsAbortedFor o s u (calls_of (acts o begun.first).aborted s left cause unmade) cause

  -- the commit was refused so, once the job was done
  pub record IsCommitRefused (s u : Seat V) (cause : Refusal) : Type 0 where
    pub calls : List (Call V × Reply V)
    pub before : Seat V
    pub begun : HasBegun o s before
    pub at : IsAt (acts o begun.first).aborted s before calls ask.Done
    pub ended : IsEnded o before u cause
    pub kind : IsCommitRefusal cause
    pub gains : GainsAbortedFor o s u calls cause

  -- the begin, the commit, or what is between them
  abbrev pub IsRefusedOf : Seat V → Seat V → Refusal → Type 0
  IsRefusedOf s u cause = (IsNotBegun o s u cause × Aborts o s u []) ⊎ (IsCommitRefused s u cause ⊎ IsBrokenOff s u cause)

  -- ---- the result of an attempt
  -- The receipt has all calls of the job, with their replies, and the seat gains it, and no other. Its number is the last one of the seat
  -- then: above the one before where the job has written, and not below it where it hasn't; then none of its calls has changed anything.
  pub record HasMade (s u : Seat V) (r : Record V) : Type 0 where
    pub job : IsWholeJob asks r.calls
    pub gains : (view u).receipts ≡ (view s).receipts ++ (actor s, r) ∷ []
    pub shares : (view u).shares ≡ (view s).shares
    pub joined : (view u).joined ≡ (view s).joined
    pub above : r.writes ≡ true → s.last < r.number
    pub last : (s.last ≤ r.number) × (u.last ≡ r.number)
    pub before : Seat V
    pub begun : HasBegun o s before
    pub at : IsAt (acts o begun.first).aborted s before r.calls ask.Done
    pub writes : r.writes ≡ has_written o before
    pub reads : r.writes ≡ false → is_writer r.calls ≡ false
    pub committed : HasCommitted o before u r
    pub aborts : Aborts o s u []

  -- the job has aborted after the replies to its calls; the seat gains no receipt
  pub record HasGivenUp (s u : Seat V) : Type 0 where
    pub keeps : KeepsReceipts s u
    pub calls : List (Call V × Reply V)
    pub before : Seat V
    pub begun : HasBegun o s before
    pub at : IsAt (acts o begun.first).aborted s before calls ask.GiveUp
    pub aborted : HasAborted o before u
    pub gains : GainsAborted o s u calls None

  -- a receipt, a job that aborted, or a refusal
  abbrev pub EndsAs : Seat V → Seat V → Result (Attempt V) Refusal → Type 0
  EndsAs s u (Ok (Committed r)) = HasMade s u r
  EndsAs s u (Ok GivenUp) = HasGivenUp s u
  EndsAs s u (Err cause) = KeepsReceipts s u × IsRefusedOf s u cause

  -- An attempt had this result, and led the seat from s to u, which asked one transaction to begin, and no more. One that was open before
  -- was aborted, as one of these turns answered.
  abbrev pub AttemptsTo : Seat V → Seat V → Result (Attempt V) Refusal → Type 0
  AttemptsTo s u r = EndsAs s u r × (begins_of u ≡ begins_of s + 1) × (IsOpen o s → HasAborted o s u)
