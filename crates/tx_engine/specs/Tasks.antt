-- What comes of a worker's list of jobs.
use Rattle.std.specs.Prelude.{◌≡◌, ◌⊎◌, ℕ, ◌+◌, ◌<◌, ◌≤◌, All, List, [], ◌∷◌, ◌++◌, length, map, Result, Ok, Err, IfOk, IfErr}
use Rattle.std.specs.Vec.{vec_capacity}
use Rattle.seq_model.specs.declared.call.Reply.{Reply}
use Rattle.seq_model.specs.declared.record.Record.{Record}
use Rattle.seq_model.specs.declared.job.Ask.{Ask}
use Rattle.shared_table.specs.declared.table.TxTable.{TxTable}
use Rattle.shared_table.specs.Seated.{actor, opening_of, view}
use Rattle.shared_table.specs.declared.view.Turn.{Turn}
use Rattle.tx_engine.specs.declared.seats.TxSeat.{TxSeat}
use Rattle.actor_laws.specs.KnownStages.{Rests}
use Rattle.tx_engine.specs.Ready.{IsReady, standing}
use Rattle.seq_model.specs.declared.causes.LastAbort.{LastAbort}
use Rattle.seq_model.specs.declared.causes.LastAbort.TheVariants.{NotStarted}
use Rattle.tx_engine.specs.declared.tasks.Task.{Task}
use Rattle.tx_engine.specs.Retries.{HasNoReceipt, HasReceipt}

-- actors, each with the turns that it took
abbrev pub Took : Type 0 → Type 0
Took V = List (ℕ × List (Turn V))

-- a job has this receipt, or none for this cause
abbrev pub Outcome : Type 0 → Type 0
Outcome V = Result (Record V) LastAbort

module _ {V : Type 0} where
  -- the receipts, in the order of the jobs
  abbrev pub receipts_in : List (Outcome V) → List (Record V)
  receipts_in [] = []
  receipts_in (Ok r ∷ os) = r ∷ receipts_in os
  receipts_in (Err cause ∷ os) = receipts_in os

  -- the worker, the place and the cause of each job without a receipt, where the first of these jobs has this place
  abbrev pub missed_in : ℕ → ℕ → List (Outcome V) → List (ℕ × ℕ × LastAbort)
  missed_in worker place [] = []
  missed_in worker place (Ok r ∷ os) = missed_in worker (place + 1) os
  missed_in worker place (Err cause ∷ os) = (worker, place, cause) ∷ missed_in worker (place + 1) os

  -- the receipts that a seat has, of whichever actors
  abbrev pub records_of : TxSeat V → List (Record V)
  records_of s = map (λ e. e.1) (view s.seat).receipts

  -- The seat has as many shares, and these receipts more. Its last number is no lower than it was, nor than that of any of them.
  pub record Gains (s u : TxSeat V) (receipts : List (Record V)) : Type 0 where
    pub shares : (view u.seat).shares ≡ (view s.seat).shares
    pub records : records_of u ≡ records_of s ++ receipts
    pub last : s.seat.last ≤ u.seat.last
    pub known : All (λ (r : Record V). r.number ≤ u.seat.last) receipts

  -- the seat is that of the same actor, and these were joined into it
  pub record GetsJoined (s u : TxSeat V) (others : Took V) : Type 0 where
    pub same : actor u.seat ≡ actor s.seat
    pub joined : (view u.seat).joined ≡ (view s.seat).joined ++ others

  -- What at most so many attempts of a job resulted in. They led the seat from s to u, which is ready for others, without a transaction.
  pub record IsTried (asks : List (Reply V) → Ask V → Type 0) (t : TxTable V) (tries : ℕ) (s u : TxSeat V) (o : Outcome V) : Type 0 where
    pub ready : IsReady t u
    pub rests : standing (opening_of t) u.seat ≡ Rests
    pub receipt : IfOk o (HasReceipt asks t tries s.seat u.seat)
    pub none : IfErr o (HasNoReceipt asks t tries s.seat u.seat)

module _ {V J : Type 0} where
  -- no thread was started for these jobs
  abbrev pub AreNotStarted : List J → List (Outcome V) → Type 0
  AreNotStarted [] [] = Unit {0}
  AreNotStarted (job ∷ jobs) (o ∷ os) = (o ≡ Err NotStarted) × AreNotStarted jobs os
  AreNotStarted [] (o ∷ os) = ⊥
  AreNotStarted (job ∷ jobs) [] = ⊥

module _ {V J : Type 0} (asks : J → List (Reply V) → Ask V → Type 0) (t : TxTable V) (tries : ℕ) where
  -- what came of these jobs, one after another, which led the seat from s to u
  abbrev pub AreTried : List J → List (Outcome V) → TxSeat V → TxSeat V → Type 0
  AreTried [] [] s u = u ≡ s
  AreTried (job ∷ jobs) (o ∷ os) s u = (m : TxSeat V) × IsTried (asks job) t tries s m o × AreTried jobs os m u
  AreTried [] (o ∷ os) s u = ⊥
  AreTried (job ∷ jobs) [] s u = ⊥

  -- The same by this actor, whose seat was ready: it had taken these turns before the first attempt, and in the end those, with all that
  -- the attempts took.
  pub record AreTriedBy (a : ℕ) (before after : List (Turn V)) (jobs : List J) (outcomes : List (Outcome V)) : Type 0 where
    pub first : TxSeat V
    pub last : TxSeat V
    pub ready : IsReady t first
    pub same : actor first.seat ≡ a
    pub from : (view first.seat).turns ≡ before
    pub tried : AreTried jobs outcomes first last
    pub more : List (Turn V)
    pub to : after ≡ (view last.seat).turns ++ more

  -- One outcome for each of a worker's jobs, in their order: by an actor that took these turns, from those before on; or no thread was
  -- started for it, which the first worker doesn't need.
  abbrev pub AreOutcomes : ℕ → List J → List (Turn V) → List (Outcome V) → Took V → Type 0
  AreOutcomes worker jobs before outcomes took =
      ((a : ℕ) × (after : List (Turn V)) × AreTriedBy a before after jobs outcomes × (took ≡ (a, after) ∷ []))
      ⊎ ((1 < worker) × AreNotStarted jobs outcomes × All (λ (e : ℕ × List (Turn V)). e.1 ≡ []) took)

module _ {V : Type 0} where
  -- outcomes of a worker's jobs of which this holds, with their receipts and with what was missed
  pub record AreReported (E : List (Outcome V) → Type 0) (worker : ℕ) (receipts : List (Record V)) (missed : List (ℕ × ℕ × LastAbort))
      : Type 0 where
    pub outcomes : List (Outcome V)
    pub each : E outcomes
    pub receipts_are : receipts ≡ receipts_in outcomes
    pub missed_are : missed ≡ missed_in worker 0 outcomes

module _ {V J : Type 0} where
  -- the same of a task
  abbrev pub IsReported : (List (Outcome V) → Type 0) → Task V J → Type 0
  IsReported E task = AreReported E task.worker task.receipts.items task.missed.items

  -- no thread was started for its jobs
  abbrev pub IsLeft : Task V J → Type 0
  IsLeft task = IsReported (AreNotStarted task.jobs.items) task

  -- each of its jobs has one outcome, by this actor, which had taken these turns before and has those then
  abbrev pub IsDone : (J → List (Reply V) → Ask V → Type 0) → TxTable V → ℕ → ℕ → (before after : List (Turn V)) → Task V J → Type 0
  IsDone asks t tries a before after task = IsReported (AreTriedBy asks t tries a before after task.jobs.items) task

  -- so many jobs at most have an outcome so far, and there is room for those of all
  pub record HasRoom (n : ℕ) (task : Task V J) : Type 0 where
    pub receipts : length task.receipts.items ≤ n
    pub missed : length task.missed.items ≤ n
    pub receipts_fit : length task.jobs.items ≤ vec_capacity task.receipts
    pub missed_fit : length task.jobs.items ≤ vec_capacity task.missed

  -- nothing has come of its jobs, and there is room for what will
  pub record IsFreshTask (task : Task V J) : Type 0 where
    pub receipts : task.receipts.items ≡ []
    pub missed : task.missed.items ≡ []
    pub receipts_fit : length task.jobs.items ≤ vec_capacity task.receipts
    pub missed_fit : length task.jobs.items ≤ vec_capacity task.missed

  -- u has the worker and the jobs of t
  abbrev pub IsSameTask : Task V J → Task V J → Type 0
  IsSameTask t u = (u.worker ≡ t.worker) × (u.jobs.items ≡ t.jobs.items)
