-- The lists of jobs as a tree of halves, from left to right, and what came of them.
use Rattle.std.specs.Prelude.{◌≡◌, ◌⊎◌, ℕ, ◌+◌, ◌<◌, ◌≤◌, List, [], ◌∷◌, ◌++◌}
use Rattle.seq_model.specs.declared.call.Reply.{Reply}
use Rattle.seq_model.specs.declared.limits.TheConstants.{ACTOR_LIMIT}
use Rattle.seq_model.specs.declared.record.Record.{Record}
use Rattle.seq_model.specs.declared.job.Ask.{Ask}
use Rattle.shared_table.specs.declared.table.TxTable.{TxTable}
use Rattle.shared_table.specs.Seated.{actor, view}
use Rattle.shared_table.specs.declared.view.Turn.{Turn}
use Rattle.tx_engine.specs.declared.seats.TxSeat.{TxSeat}
use Rattle.tx_engine.specs.Ready.{IsReady}
use Rattle.seq_model.specs.declared.causes.LastAbort.{LastAbort}
use Rattle.job_workers.specs.declared.tree.Tree.{Tree, Taken, Leaf, Both'}
use Rattle.tx_engine.specs.Tasks.{Gains, GetsJoined, IsDone, IsFreshTask, IsLeft, Took}

module _ {V J : Type 0} where
  -- how many lists there are; where one was taken out counts as well
  abbrev pub leaves : Tree V J → ℕ
  leaves Taken = 1
  leaves (Leaf t) = 1
  leaves (Both' p l q r) = leaves l + leaves r

  -- the workers, with their jobs
  abbrev pub works : Tree V J → List (ℕ × List J)
  works Taken = []
  works (Leaf t) = (t.worker, t.jobs.items) ∷ []
  works (Both' p l q r) = works l ++ works r

  -- the receipts of each worker
  abbrev pub lists_of : Tree V J → List (List (Record V))
  lists_of Taken = []
  lists_of (Leaf t) = t.receipts.items ∷ []
  lists_of (Both' p l q r) = lists_of l ++ lists_of r

  -- those of all workers, one after another
  abbrev pub gained : Tree V J → List (Record V)
  gained Taken = []
  gained (Leaf t) = t.receipts.items
  gained (Both' p l q r) = gained l ++ gained r

  -- what all of them missed
  abbrev pub missed_of : Tree V J → List (ℕ × ℕ × LastAbort)
  missed_of Taken = []
  missed_of (Leaf t) = t.missed.items
  missed_of (Both' p l q r) = missed_of l ++ missed_of r

  -- the first worker is not among them
  abbrev pub AreOthers : Tree V J → Type 0
  AreOthers Taken = Unit {0}
  AreOthers (Leaf t) = 1 < t.worker
  AreOthers (Both' p l q r) = AreOthers l × AreOthers r

  -- none was taken out, nothing has come of any job, and the first worker is in no second half
  abbrev pub IsFresh : Tree V J → Type 0
  IsFresh Taken = ⊥
  IsFresh (Leaf t) = IsFreshTask t
  IsFresh (Both' p l q r) = IsFresh l × (IsFresh r × AreOthers r)

  -- no thread was started for any of them, nor was one due for the first worker
  abbrev pub AreLeft : Tree V J → Type 0
  AreLeft Taken = ⊥
  AreLeft (Leaf t) = (1 < t.worker) × IsLeft t
  AreLeft (Both' p l q r) = AreLeft l × AreLeft r

-- The lists come back as they went, with the seat: no thread was started for them.
pub record WasLeft {V J : Type 0} (table : TxTable V) (s u : TxSeat V) (before after : Tree V J) : Type 0 where
  pub ready : IsReady table u
  pub same : u ≡ s
  pub none : gained after ≡ []
  pub works_are : works after ≡ works before
  pub left : AreLeft after

module _ {V J : Type 0} (asks : J → List (Reply V) → Ask V → Type 0) (table : TxTable V) (tries : ℕ) where
  -- Each job of each worker has one outcome. The first list was run by this actor, which had taken these turns before, and those in the
  -- end; what others took, each from its first turn on, was joined into its seat: first the others of the first half, then the actor
  -- of the second half and the others there. For a second half no thread may have been started.
  abbrev pub AreDone : Tree V J → ℕ → (before after : List (Turn V)) → Took V → Type 0
  AreDone Taken a before after others = ⊥
  AreDone (Leaf t) a before after others = IsDone asks table tries a before after t × (others ≡ [])
  AreDone (Both' p l q r) a before after others =
      (of_first : Took V) × (of_second : Took V) × (b : ℕ) × (turns : List (Turn V)) × AreDone l a before after of_first
      × (AreDone r b [] turns of_second ⊎ (AreLeft r × (turns ≡ []) × (of_second ≡ []))) × (others ≡ of_first ++ (b, turns) ∷ of_second)

  -- The lists were run from the seat s, which is u then: it is ready, has as many shares, and their receipts more, whose numbers it knows.
  pub record Ran (s u : TxSeat V) (before after : Tree V J) : Type 0 where
    pub ready : IsReady table u
    pub gains : Gains s u (gained after)
    pub works_are : works after ≡ works before
    pub others : Took V
    pub joined : GetsJoined s u others
    pub done : AreDone after (actor s.seat) (view s.seat).turns (view u.seat).turns others

  -- they come back run, or as they went
  abbrev pub ComesBack : (s u : TxSeat V) (before after : Tree V J) → Type 0
  ComesBack s u before after = Ran s u before after ⊎ WasLeft table s u before after

-- A seat that can run these lists: it has a share for each.
pub record CanRun {V J : Type 0} (table : TxTable V) (s : TxSeat V) (t : Tree V J) : Type 0 where
  pub ready : IsReady table s
  pub shares : leaves t ≤ (view s.seat).shares
  pub some : 1 ≤ leaves t
  pub few : leaves t ≤ ACTOR_LIMIT
  pub fresh : IsFresh t
