-- What comes of so many attempts of a job.
use Rattle.std.specs.Prelude.{◌≡◌, ℕ, ◌+◌, ◌<◌, ◌≤◌, List, [], ◌∷◌, ◌++◌, length, Result, Ok, Err}
use Rattle.seq_model.specs.declared.call.Reply.{Reply}
use Rattle.seq_model.specs.declared.record.Record.{Record}
use Rattle.seq_model.specs.declared.refusal.Refusal.{Refusal}
use Rattle.seq_model.specs.declared.refusal.Refusal.TheVariants.{Moved, Busy, Stale, GateBusy, Invalid}
use Rattle.replay_log.specs.Seats.{Ended}
use Rattle.seq_model.specs.declared.job.Ask.{Ask}
use Rattle.shared_table.specs.declared.seat.Seat.{Seat}
use Rattle.shared_table.specs.declared.table.TxTable.{TxTable}
use Rattle.shared_table.specs.Seated.{actor, opening_of, view}
use Rattle.tx_engine.specs.Requests.{KeepsReceipts}
use Rattle.tx_engine.specs.Attempts.{Aborts, AttemptsTo}
use Rattle.tx_engine.specs.Jobs.{IsWholeJob}
use Rattle.tx_engine.specs.declared.attempts.Attempt.{Attempt}
use Rattle.tx_engine.specs.declared.attempts.Attempt.TheVariants.{Committed, GivenUp}
use Rattle.seq_model.specs.declared.causes.LastAbort.{LastAbort}
use Rattle.seq_model.specs.declared.causes.LastAbort.TheVariants as last

-- others stood in the way
abbrev pub IsTransient : Refusal → Type 0
IsTransient (Moved l k) = Unit {0}
IsTransient (Busy l k) = Unit {0}
IsTransient (Stale l k m) = Unit {0}
IsTransient (GateBusy c) = Unit {0}
IsTransient (Invalid l k) = Unit {0}
IsTransient cause = ⊥

module _ {V : Type 0} (asks : List (Reply V) → Ask V → Type 0) (t : TxTable V) where
  -- Attempts of the job, one after another, lead from the seat s to the seat u. Each was refused as here, the newest first, since others
  -- stood in its way.
  abbrev pub AreInVain : Seat V → List Refusal → Seat V → Type 0
  AreInVain s [] u = u ≡ s
  AreInVain s (cause ∷ causes) u =
      (m : Seat V) × AreInVain s causes m × AttemptsTo asks (opening_of t) m u (Err cause) × IsTransient cause

  -- So many attempts were in vain, and led from s to m; there the next one had this result, and led to u. Where there were some, the
  -- aborted transactions of the world with m alone are those of that with s, then the one open at s, if any, then one for each attempt.
  pub record ComesAfter (n : ℕ) (s m u : Seat V) (r : Result (Attempt V) Refusal) : Type 0 where
    pub causes : List Refusal
    pub many : length causes ≡ n
    pub vain : AreInVain s causes m
    pub gains : 0 < n → (es : List (Ended V)) × (length es ≡ n) × Aborts (opening_of t) s m es
    pub comes : AttemptsTo asks (opening_of t) m u r

  -- One of so many attempts had this receipt, which the seat gains, and no other. Its number is the last one of the seat then, and not
  -- below the one before.
  pub record HasReceipt (tries : ℕ) (s u : Seat V) (r : Record V) : Type 0 where
    pub job : IsWholeJob asks r.calls
    pub same : actor u ≡ actor s
    pub gains : (view u).receipts ≡ (view s).receipts ++ (actor s, r) ∷ []
    pub shares : (view u).shares ≡ (view s).shares
    pub joined : (view u).joined ≡ (view s).joined
    pub number : (s.last ≤ r.number) × (u.last ≡ r.number)
    pub before : ℕ
    pub few : before < tries
    pub at : Seat V
    pub last : ComesAfter before s at u (Ok (Committed r))

  -- The last attempt was refused so: where others stood in its way there were as many as are to be.
  pub record IsRefusedLast (tries : ℕ) (s u : Seat V) (cause : Refusal) : Type 0 where
    pub before : ℕ
    pub few : before < tries
    pub all : IsTransient cause → before + 1 ≡ tries
    pub at : Seat V
    pub last : ComesAfter before s at u (Err cause)

  -- In the last attempt the job aborted its transaction.
  pub record GivesUpLast (tries : ℕ) (s u : Seat V) : Type 0 where
    pub before : ℕ
    pub few : before < tries
    pub at : Seat V
    pub last : ComesAfter before s at u (Ok GivenUp)

  -- the last of at most so many attempts ended so: it was refused, or its job aborted; one was made
  abbrev pub EndsInVain : ℕ → Seat V → Seat V → LastAbort → Type 0
  EndsInVain tries s u (last.Refused cause) = IsRefusedLast tries s u cause
  EndsInVain tries s u last.GivenUp = GivesUpLast tries s u
  EndsInVain tries s u last.NotStarted = ⊥

  -- No attempt of so many had a receipt, and the seat gains none: the last ended so.
  pub record HasNoReceipt (tries : ℕ) (s u : Seat V) (cause : LastAbort) : Type 0 where
    pub keeps : KeepsReceipts s u
    pub ends : EndsInVain tries s u cause
