-- What a run of workers reports.
use Rattle.std.specs.Prelude.{◌≡◌, ℕ, ◌+◌, ◌≤◌, List, [], ◌∷◌, ◌++◌, flat_map, length, map, sum_by}
use Rattle.std.specs.declared.vec.Vec.{Vec}
use Rattle.std.specs.Vec.{vec_capacity}
use Rattle.std.specs.declared.alloc.Global.{Global}
use Rattle.seq_model.specs.declared.call.Reply.{Reply}
use Rattle.seq_model.specs.declared.record.Record.{Record}
use Rattle.seq_model.specs.declared.job.Ask.{Ask}
use Rattle.actor_laws.specs.KnownStages.{Rests}
use Rattle.shared_table.specs.Seated.{actor, opening_of, view}
use Rattle.shared_table.specs.declared.table.TxTable.{TxTable}
use Rattle.shared_table.specs.declared.view.Turn.{Turn}
use Rattle.tx_turns.specs.Begins.{begins_of}
use Rattle.tx_engine.specs.Ready.{standing}
use Rattle.tx_engine.specs.Requests.{HasAborted, IsOpen, KeepsReceipts}
use Rattle.seq_model.specs.declared.causes.LastAbort.{LastAbort}
use Rattle.job_workers.specs.declared.report.Draft.{Draft}
use Rattle.job_workers.specs.declared.report.Report.{Report}
use Rattle.job_workers.specs.declared.tree.Tree.{Tree}
use Rattle.tx_engine.specs.declared.seats.TxSeat.{TxSeat}
use Rattle.job_workers.specs.Trees.{IsFresh, leaves, works}
use Rattle.tx_engine.specs.Tasks.{AreOutcomes, Gains, GetsJoined, Outcome, Took, missed_in, receipts_in}

module _ {J : Type 0} where
  -- the jobs of each list
  abbrev pub jobs_of : List (Vec J Global) → List (List J)
  jobs_of lists = map (λ list. list.items) lists

  -- the workers of these lists, from this one on, each with its jobs
  abbrev pub numbered : ℕ → List (List J) → List (ℕ × List J)
  numbered first [] = []
  numbered first (jobs ∷ lists) = (first, jobs) ∷ numbered (first + 1) lists

  -- how many jobs there are in all
  abbrev pub jobs_in : List (Vec J Global) → ℕ
  jobs_in lists = sum_by (λ list. length list.items) lists

  -- of these lists the last ones were taken, so many, and are those of the workers from this one on
  pub record AreTaken (before after : List (Vec J Global)) (count first : ℕ) (workers : List (ℕ × List J)) : Type 0 where
    pub taken : List (Vec J Global)
    pub many : length taken ≡ count
    pub parts : before ≡ after ++ taken
    pub workers_are : workers ≡ numbered first (jobs_of taken)

module _ {V J : Type 0} where
  -- nothing is reported, and there is room for the receipts of these lists, and for their jobs
  pub record HasRoomFor (lists : List (Vec J Global)) (d : Draft V) : Type 0 where
    pub empty : (d.receipts.items ≡ []) × (d.missed.items ≡ [])
    pub receipts : length lists ≤ vec_capacity d.receipts
    pub missed : jobs_in lists ≤ vec_capacity d.missed

  -- its workers are those of these lists, from 1 on, of which nothing has come so far
  pub record IsTreeOf (lists : List (Vec J Global)) (t : Tree V J) : Type 0 where
    pub workers_are : works t ≡ numbered 1 (jobs_of lists)
    pub many : leaves t ≡ length lists
    pub fresh : IsFresh t

-- The seat has its shares again, and has gained the receipts that are reported, and no others. Its last number is no lower than it was, nor
-- than that of any of these.
abbrev pub HasRun : {V : Type 0} → TxSeat V → TxSeat V → Report V → Type 0
HasRun s u report = Gains s u (flat_map (λ receipts. receipts) report.receipts)

-- No worker was started: the seat has begun no transaction and gained no receipt. One that was open there was aborted; where there was
-- none, the seat is as it was.
pub record HasNotRun {V : Type 0} (t : TxTable V) (s u : TxSeat V) : Type 0 where
  pub keeps : KeepsReceipts s.seat u.seat
  pub begins : begins_of u.seat ≡ begins_of s.seat
  pub aborted : IsOpen (opening_of t) s.seat → HasAborted (opening_of t) s.seat u.seat
  pub same : standing (opening_of t) s.seat ≡ Rests → u ≡ s

module _ {V J : Type 0} (asks : J → List (Reply V) → Ask V → Type 0) (t : TxTable V) (tries : ℕ) where
  -- The receipts of the workers, list by list, what they missed, and what actors took for them: each of the first one's jobs has an
  -- outcome, by an actor that had taken these turns before, and so on; the actors of the others had taken none.
  abbrev pub Reports : List (Turn V) → List (ℕ × List J) → List (List (Record V)) → List (ℕ × ℕ × LastAbort) → Took V → Type 0
  Reports before [] receipts missed took = (receipts ≡ []) × (missed ≡ []) × (took ≡ [])
  Reports before (w ∷ ws) receipts missed took =
      (outcomes : List (Outcome V)) × (others : List (List (Record V))) × (later : List (ℕ × ℕ × LastAbort))
      × (own : Took V) × (rest : Took V)
      × AreOutcomes asks t tries w.0 w.1 before outcomes own
      × (receipts ≡ receipts_in outcomes ∷ others) × (missed ≡ missed_in w.0 0 outcomes ++ later) × (took ≡ own ++ rest)
      × Reports [] ws others later rest

  -- Each job of each list has one receipt, of an attempt of that job, in the order of its list, or stands once among those that were
  -- missed, with the result of so many attempts of it. The attempts of the first list are turns of the seat's own actor, which led it from
  -- s to u; those of each other list are turns of an actor whose seat was joined into it.
  pub record IsReportOf (s u : TxSeat V) (lists : List (List J)) (report : Report V) : Type 0 where
    pub others : Took V
    pub joined : GetsJoined s u others
    pub each : Reports (view s.seat).turns (numbered 1 lists) report.receipts report.missed ((actor u.seat, (view u.seat).turns) ∷ others)
