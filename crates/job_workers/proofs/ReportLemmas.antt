-- The report of a run.
-- The lists that a tree was made of are its workers, from left to right, numbered from the first; the parts of a report for the workers of
-- the left half and for those of the right one, one after the other, are a report for all of them. So what is gathered from a tree from
-- left to right is the report of its lists, and for that there is room: there is one list of receipts for each list, and no more missed
-- jobs than jobs.
use Rattle.std.proofs.Common.{◌≡◌, ℕ, suc, ◌+◌, ◌<◌, ◌≤◌, List, [], ◌∷◌, ◌++◌, length, inl, inr, refl, sym, ap, ap₂, ◌∙◌, arith, subst}
use Rattle.std.proofs.Common.{⊎_elim}
use Rattle.std.specs.Prelude.{All, flat_map, get_or, sum_by, take}
use Rattle.std.specs.declared.alloc.Global.{Global}
use Rattle.std.specs.declared.vec.Vec.{Vec}
use Rattle.std.proofs.lemmas.Grind.{flat_map-append}
use Rattle.std.proofs.lemmas.List.{append-nil, append_assoc, length-append, length-map, map-append}
use Rattle.std.proofs.lemmas.List.Elements.{All-cons, All-nil}
use Rattle.std.proofs.lemmas.List.Sums.{sum_by-append, sum_by_more}
use Rattle.std.proofs.Math.Seq.{take-length}
use Rattle.seq_model.specs.declared.call.Reply.{Reply}
use Rattle.seq_model.specs.declared.record.Record.{Record}
use Rattle.seq_model.specs.declared.job.Ask.{Ask}
use Rattle.shared_table.specs.Seated.{actor, view}
use Rattle.shared_table.specs.declared.table.TxTable.{TxTable}
use Rattle.shared_table.specs.declared.view.Turn.{Turn}
use Rattle.tx_engine.specs.Requests.{KeepsReceipts}
use Rattle.tx_engine.specs.declared.seats.TxSeat.{TxSeat}
use Rattle.seq_model.specs.declared.causes.LastAbort.{LastAbort}
use Rattle.job_workers.specs.declared.report.Report.{Report}
use Rattle.job_workers.specs.declared.tree.Tree.{Tree, Taken, Leaf, Both'}
use Rattle.job_workers.specs.Reports.{AreTaken, IsReportOf, IsTreeOf, Reports, jobs_in, jobs_of, numbered}
use Rattle.tx_engine.specs.declared.tasks.Task.{Task}
use Rattle.tx_engine.specs.Tasks.{AreNotStarted, AreTriedBy, GetsJoined, IsSameTask, Took}
use Rattle.job_workers.specs.Trees.{AreDone, AreLeft, Ran, gained, lists_of, missed_of, works}
use Rattle.tx_engine.proofs.TaskLemmas.{few_reported, keeps_joined, longer, many_by, many_left, then_joined}

module _ {J : Type 0} where
  -- ---- the jobs are counted
  pub count_more : (lists : List (Vec J Global)) (i : ℕ) (d : Vec J Global) → i < length lists
      → jobs_in (take (i + 1) lists) ≡ jobs_in (take i lists) + length (get_or lists i d).items
  count_more lists i d lt = sum_by_more (λ (list : Vec J Global). length list.items) lists i d lt

  pub count_all : (lists : List (Vec J Global)) (n : ℕ) → n ≡ length lists → jobs_in (take n lists) ≡ jobs_in lists
  count_all lists n e = rw e (ap jobs_in (take-length lists))

  -- ---- lists that are taken from the end
  numbered_after : (first : ℕ) (xs ys : List (List J)) → numbered first (xs ++ ys) ≡ numbered first xs ++ numbered (first + length xs) ys
  numbered_after first [] ys = ap (λ (n : ℕ). numbered n ys) (omega arith)
  numbered_after first (x ∷ xs) ys =
      let e : first + 1 + length xs ≡ first + length (x ∷ xs) = omega arith in
      ap (λ (ws : List (ℕ × List J)). (first, x) ∷ ws)
      (numbered_after (first + 1) xs ys ∙ ap (λ (n : ℕ). numbered (first + 1) xs ++ numbered n ys) e)

  pub taken_one : (before after : List (Vec J Global)) (list : Vec J Global) (first : ℕ) → before ≡ after ++ list ∷ []
      → AreTaken before after 1 first ((first, list.items) ∷ [])
  taken_one before after list first e = record { taken = list ∷ []; many = refl; parts = e; workers_are = refl }

  pub taken_both : (before mid after : List (Vec J Global)) (n m first second : ℕ) (left right : List (ℕ × List J))
      → AreTaken before mid n second right → AreTaken mid after m first left → second ≡ first + m
      → AreTaken before after (m + n) first (left ++ right)
  taken_both before mid after n m first second left right g h e =
      let L = h.taken in
      let R = g.taken in
      let p = h.many in
      let q = g.many in
      let lengths : length (jobs_of L) ≡ length L = length-map L (λ (list : Vec J Global). list.items) in
      let second_is : second ≡ first + length (jobs_of L) = omega arith in
      record {
        taken = L ++ R;
        many = omega (arith, length-append L R);
        parts = g.parts ∙ (ap (λ (xs : List (Vec J Global)). xs ++ R) h.parts ∙ append_assoc after L R);
        workers_are = ap₂ ◌++◌ h.workers_are (g.workers_are ∙ ap (λ (k : ℕ). numbered k (jobs_of R)) second_is)
            ∙ (sym (numbered_after first (jobs_of L) (jobs_of R))
            ∙ ap (numbered first) (sym (map-append (λ (list : Vec J Global). list.items) L R)));
      }

  none_left : (xs : List (Vec J Global)) → length xs ≡ 0 → xs ≡ []
  none_left [] e = refl
  none_left (x ∷ xs) e = absurd (omega arith)

  -- all were taken
  pub taken_all : (before after : List (Vec J Global)) (n first : ℕ) (workers : List (ℕ × List J)) → n ≡ length before
      → AreTaken before after n first workers → workers ≡ numbered first (jobs_of before)
  taken_all before after n first workers e h =
      let m = h.many in
      let p = ap length h.parts in
      let none = none_left after (omega (arith, length-append after h.taken)) in
      h.workers_are ∙ ap (λ (xs : List (Vec J Global)). numbered first (jobs_of xs))
      (sym (h.parts ∙ ap (λ (xs : List (Vec J Global)). xs ++ h.taken) none))

  jobs_numbered : (first : ℕ) (lists : List (Vec J Global)) → sum_by (λ w. length w.1) (numbered first (jobs_of lists)) ≡ jobs_in lists
  jobs_numbered first [] = refl
  jobs_numbered first (list ∷ lists) =
      sum_by-append (λ (w : ℕ × List J). length w.1) ((first, list.items) ∷ []) (numbered (first + 1) (jobs_of lists))
      ∙ (ap (λ (n : ℕ). 0 + length list.items + n) (jobs_numbered (first + 1) lists)
      ∙ sym (sum_by-append (λ (l : Vec J Global). length l.items) (list ∷ []) lists))

  as_many_numbered : (first : ℕ) (lists : List (List J)) → length (numbered first lists) ≡ length lists
  as_many_numbered first [] = refl
  as_many_numbered first (list ∷ lists) = ap suc (as_many_numbered (first + 1) lists)

module _ {V J : Type 0} where
  -- a leaf whose task has the same jobs
  pub same_works : (task after : Task V J) (tree : Tree V J) → tree ≡ Leaf task → IsSameTask task after → works (Leaf after) ≡ works tree
  same_works task after tree e h = ap₂ (λ (w : ℕ) (js : List J). (w, js) ∷ []) h.0 h.1 ∙ sym (ap works e)

  as_many_lists : (t : Tree V J) → length (lists_of t) ≡ length (works t)
  as_many_lists Taken = refl
  as_many_lists (Leaf t) = refl
  as_many_lists (Both' p l q r) =
      let a = as_many_lists l in
      let b = as_many_lists r in
      omega (arith, length-append (lists_of l) (lists_of r), length-append (works l) (works r))

  pub flat_gained : (t : Tree V J) → flat_map (λ (rs : List (Record V)). rs) (lists_of t) ≡ gained t
  flat_gained Taken = refl
  flat_gained (Leaf t) = append-nil t.receipts.items
  flat_gained (Both' p l q r) =
      flat_map-append (λ (rs : List (Record V)). rs) (lists_of l) (lists_of r) ∙ ap₂ ◌++◌ (flat_gained l) (flat_gained r)

module _ {V J : Type 0} where
  -- ---- lists for which no thread was started
  few_left : (tree : Tree V J) → AreLeft tree → length (missed_of tree) ≤ sum_by (λ w. length w.1) (works tree)
  few_left Taken h = absurd h
  few_left (Leaf task) h =
      let few = few_reported (AreNotStarted task.jobs.items) task.worker (length task.jobs.items) task.receipts.items task.missed.items
      (many_left task.jobs.items) h.1 in
      let m = few.1 in
      omega arith
  few_left (Both' p l q r) h =
      let a = few_left l h.0 in
      let b = few_left r h.1 in
      omega (arith, length-append (missed_of l) (missed_of r), sum_by-append (λ (w : ℕ × List J). length w.1) (works l) (works r))

module _ {V J : Type 0} (asks : J → List (Reply V) → Ask V → Type 0) (t : TxTable V) (tries : ℕ) where
  -- ---- a tree and its report, with that of the lists after it
  reports_left : (tree : Tree V J) (took : Took V) (ws : List (ℕ × List J)) (rs : List (List (Record V))) (ms : List (ℕ × ℕ × LastAbort))
      (rest : Took V) → AreLeft tree → All (λ (e : ℕ × List (Turn V)). e.1 ≡ []) took → Reports asks t tries [] ws rs ms rest
      → Reports asks t tries [] (works tree ++ ws) (lists_of tree ++ rs) (missed_of tree ++ ms) (took ++ rest)
  reports_left Taken took ws rs ms rest h unused g = absurd h
  reports_left (Leaf task) took ws rs ms rest h unused g = (
    h.1.outcomes,
    rs,
    ms,
    took,
    rest,
    inr (h.0, h.1.each, unused),
    ap (λ (xs : List (Record V)). xs ∷ rs) h.1.receipts_are,
    ap (λ (xs : List (ℕ × ℕ × LastAbort)). xs ++ ms) h.1.missed_are,
    refl,
    g,
  )
  reports_left (Both' p l q r) took ws rs ms rest h unused g =
      let second = reports_left r [] ws rs ms rest h.1 (All-nil (λ (e : ℕ × List (Turn V)). e.1 ≡ [])) g in
      let both = reports_left l took (works r ++ ws) (lists_of r ++ rs) (missed_of r ++ ms) rest h.0 unused second in
      rw (append_assoc (works l) (works r) ws, append_assoc (lists_of l) (lists_of r) rs, append_assoc (missed_of l) (missed_of r) ms) both

  reports_done : (tree : Tree V J) (a : ℕ) (before after : List (Turn V)) (others : Took V) (ws : List (ℕ × List J))
      (rs : List (List (Record V))) (ms : List (ℕ × ℕ × LastAbort)) (rest : Took V) → AreDone asks t tries tree a before after others
      → Reports asks t tries [] ws rs ms rest
      → Reports asks t tries before (works tree ++ ws) (lists_of tree ++ rs) (missed_of tree ++ ms) ((a, after) ∷ (others ++ rest))
  reports_done Taken a before after others ws rs ms rest h g = absurd h
  reports_done (Leaf task) a before after others ws rs ms rest (h, none) g = (
    h.outcomes,
    rs,
    ms,
    (a, after) ∷ [],
    rest,
    inl (a, after, h.each, refl),
    ap (λ (xs : List (Record V)). xs ∷ rs) h.receipts_are,
    ap (λ (xs : List (ℕ × ℕ × LastAbort)). xs ++ ms) h.missed_are,
    ap (λ (xs : Took V). (a, after) ∷ (xs ++ rest)) none,
    g,
  )
  reports_done (Both' p l q r) a before after others ws rs ms rest (of_first, of_second, b, turns, first, inl second, all) g =
      let behind = reports_done r b [] turns of_second ws rs ms rest second g in
      let both = reports_done l a before after of_first (works r ++ ws) (lists_of r ++ rs) (missed_of r ++ ms)
      ((b, turns) ∷ (of_second ++ rest)) first behind in
      rw (
        all,
        append_assoc (works l) (works r) ws,
        append_assoc (lists_of l) (lists_of r) rs,
        append_assoc (missed_of l) (missed_of r) ms,
        append_assoc of_first ((b, turns) ∷ of_second) rest,
      ) both
  reports_done (Both' p l q r) a before after others ws rs ms rest (of_first, of_second, b, turns, first, inr (left, none, nobody), all) g =
      let Unused : Took V → Type 0 = All (λ (e : ℕ × List (Turn V)). e.1 ≡ []) in
      let unused : Unused ((b, turns) ∷ of_second) = subst (λ (xs : Took V). Unused ((b, turns) ∷ xs)) (sym nobody)
      (All-cons (λ (e : ℕ × List (Turn V)). e.1 ≡ []) (b, turns) [] none (All-nil (λ (e : ℕ × List (Turn V)). e.1 ≡ []))) in
      let behind = reports_left r ((b, turns) ∷ of_second) ws rs ms rest left unused g in
      let both = reports_done l a before after of_first (works r ++ ws) (lists_of r ++ rs) (missed_of r ++ ms)
      ((b, turns) ∷ (of_second ++ rest)) first behind in
      rw (
        all,
        append_assoc (works l) (works r) ws,
        append_assoc (lists_of l) (lists_of r) rs,
        append_assoc (missed_of l) (missed_of r) ms,
        append_assoc of_first ((b, turns) ∷ of_second) rest,
      ) both

  reports_of : (tree : Tree V J) (a : ℕ) (before after : List (Turn V)) (others : Took V) → AreDone asks t tries tree a before after others
      → Reports asks t tries before (works tree) (lists_of tree) (missed_of tree) ((a, after) ∷ others)
  reports_of tree a before after others h =
      subst (λ (k : List (ℕ × List J) × List (List (Record V)) × List (ℕ × ℕ × LastAbort) × Took V).
      Reports asks t tries before k.0 k.1 k.2 ((a, after) ∷ k.3))
      (λ i. (append-nil (works tree) i, append-nil (lists_of tree) i, append-nil (missed_of tree) i, append-nil others i))
      (reports_done tree a before after others [] [] [] [] h (refl, refl, refl))

  few_missed_of : (tree : Tree V J) (a : ℕ) (before after : List (Turn V)) (others : Took V)
      → AreDone asks t tries tree a before after others
      → length (missed_of tree) ≤ sum_by (λ w. length w.1) (works tree)
  few_missed_of Taken a before after others h = absurd h
  few_missed_of (Leaf task) a before after others h =
      let few = few_reported (AreTriedBy asks t tries a before after task.jobs.items) task.worker (length task.jobs.items)
      task.receipts.items task.missed.items (many_by asks t tries a before after task.jobs.items) h.0 in
      let m = few.1 in
      omega arith
  few_missed_of (Both' p l q r) a before after others (of_first, of_second, b, turns, first, second, all) =
      let m = few_missed_of l a before after of_first first in
      let n : length (missed_of r) ≤ sum_by (λ w. length w.1) (works r) =
      ⊎_elim (few_missed_of r b [] turns of_second) (λ (k : AreLeft r × (turns ≡ []) × (of_second ≡ [])). few_left r k.0) second in
      omega (arith, length-append (missed_of l) (missed_of r), sum_by-append (λ (w : ℕ × List J). length w.1) (works l) (works r))

  -- the actor of the first list continued
  goes_on : (tree : Tree V J) (a : ℕ) (before after more : List (Turn V)) (others : Took V)
      → AreDone asks t tries tree a before after others
      → AreDone asks t tries tree a before (after ++ more) others
  goes_on Taken a before after more others h = absurd h
  goes_on (Leaf task) a before after more others (h, none) = (longer asks t tries a before after more task h, none)
  goes_on (Both' p l q r) a before after more others (of_first, of_second, b, turns, first, second, all) =
      (of_first, of_second, b, turns, goes_on l a before after more of_first first, second, all)

  module _ (lists : List (Vec J Global)) (start tree : Tree V J) (of : IsTreeOf lists start) (s m : TxSeat V)
      (ran : Ran asks t tries s m start tree) where
    pub lists_fit : length (lists_of tree) ≡ length lists
    lists_fit =
        let k = as_many_lists tree in
        let e = ap length (ran.works_are ∙ of.workers_are) in
        let n = as_many_numbered 1 (jobs_of lists) in
        omega (arith, length-map lists (λ (list : Vec J Global). list.items))

    pub missed_fit : length (missed_of tree) ≤ jobs_in lists
    missed_fit =
        let few = few_missed_of tree (actor s.seat) (view s.seat).turns (view m.seat).turns ran.others ran.done in
        let e = ap (sum_by (λ (w : ℕ × List J). length w.1)) (ran.works_are ∙ of.workers_are) in
        let n = jobs_numbered 1 lists in
        omega arith

    -- once the transaction that was left open is ended, too
    pub is_report : (u : TxSeat V) (report : Report V) → KeepsReceipts m.seat u.seat → report.receipts ≡ lists_of tree
        → report.missed ≡ missed_of tree → IsReportOf asks t tries s u (jobs_of lists) report
    is_report u report keeps r n =
        let joined : GetsJoined s u ran.others =
        subst (GetsJoined s u) (append-nil ran.others) (then_joined s m u ran.others [] ran.joined (keeps_joined m u keeps)) in
        let done = goes_on tree (actor s.seat) (view s.seat).turns (view m.seat).turns keeps.more ran.others ran.done in
        record {
          others = ran.others;
          joined = joined;
          each = rw (r, n, ← (ran.works_are ∙ of.workers_are), joined.same, keeps.turns)
              (reports_of tree (actor s.seat) (view s.seat).turns ((view m.seat).turns ++ keeps.more) ran.others done);
        }
