-- A worker's list, job by job.
-- The outcomes of the jobs so far and that of the next one are those of the jobs up to it: its receipt comes last among the receipts, or
-- its cause last among the missed ones, with the number of the jobs before it as its place.
use Rattle.std.proofs.Common.{◌≡◌, ℕ, suc, ◌+◌, ◌-◌, ◌<◌, ◌≤◌, List, [], ◌∷◌, ◌++◌, length, Ok, Err}
use Rattle.std.proofs.Common.{refl, sym, ap, ◌∙◌, subst, arith}
use Rattle.std.specs.Prelude.{All, get_or, map, max, take}
use Rattle.std.proofs.lemmas.List.{append-nil, append_assoc, length-take-le, map-append, take_more}
use Rattle.std.proofs.lemmas.List.Elements.{All-append, All-cons, All-nil, All-weaker}
use Rattle.std.proofs.Math.Seq.{take-length}
use Rattle.seq_model.specs.declared.call.Reply.{Reply}
use Rattle.seq_model.specs.declared.record.Record.{Record}
use Rattle.seq_model.specs.declared.job.Ask.{Ask}
use Rattle.seq_model.specs.declared.causes.LastAbort.{LastAbort}
use Rattle.seq_model.specs.declared.causes.LastAbort.TheVariants.{NotStarted}
use Rattle.shared_table.specs.declared.table.TxTable.{TxTable}
use Rattle.shared_table.specs.Seated.{actor, view}
use Rattle.shared_table.specs.declared.view.Turn.{Turn}
use Rattle.tx_engine.specs.declared.seats.TxSeat.{TxSeat}
use Rattle.tx_engine.specs.Ready.{IsReady}
use Rattle.tx_engine.specs.Requests.{KeepsReceipts}
use Rattle.tx_engine.specs.declared.tasks.Task.{Task}
use Rattle.tx_engine.specs.Tasks.{AreNotStarted, AreReported, AreTried, AreTriedBy, Gains, GetsJoined, IsDone, IsReported, IsSameTask}
use Rattle.tx_engine.specs.Tasks.{IsTried, Outcome, Took, missed_in, receipts_in, records_of}

module _ {V : Type 0} where
  receipts_after : (os : List (Outcome V)) (o : Outcome V) → receipts_in (os ++ o ∷ []) ≡ receipts_in os ++ receipts_in (o ∷ [])
  receipts_after [] (Ok r) = refl
  receipts_after [] (Err cause) = refl
  receipts_after (Ok r ∷ os) o = ap (λ (rs : List (Record V)). r ∷ rs) (receipts_after os o)
  receipts_after (Err cause ∷ os) o = receipts_after os o

  missed_after : (worker place : ℕ) (os : List (Outcome V)) (o : Outcome V)
      → missed_in worker place (os ++ o ∷ []) ≡ missed_in worker place os ++ missed_in worker (place + length os) (o ∷ [])
  missed_after worker place [] o = let e : place + 0 ≡ place = omega arith in rw e
  missed_after worker place (Ok r ∷ os) o =
      let e : place + 1 + length os ≡ place + length (Ok r ∷ os) = omega arith in
      missed_after worker (place + 1) os o
      ∙ ap (λ (n : ℕ). missed_in worker (place + 1) os ++ missed_in worker n (o ∷ [])) e
  missed_after worker place (Err cause ∷ os) o =
      let e : place + 1 + length os ≡ place + length (Err cause ∷ os) = omega arith in
      ap (λ (ms : List (ℕ × ℕ × LastAbort)). (worker, place, cause) ∷ ms)
      (missed_after worker (place + 1) os o
      ∙ ap (λ (n : ℕ). missed_in worker (place + 1) os ++ missed_in worker n (o ∷ [])) e)

  few_receipts : (os : List (Outcome V)) → length (receipts_in os) ≤ length os
  few_receipts [] = omega arith
  few_receipts (Ok r ∷ os) = let h = few_receipts os in omega arith
  few_receipts (Err cause ∷ os) = let h = few_receipts os in omega arith

  few_missed : (worker place : ℕ) (os : List (Outcome V)) → length (missed_in worker place os) ≤ length os
  few_missed worker place [] = omega arith
  few_missed worker place (Ok r ∷ os) = let h = few_missed worker (place + 1) os in omega arith
  few_missed worker place (Err cause ∷ os) = let h = few_missed worker (place + 1) os in omega arith

  -- no more receipts than outcomes, and no more missed jobs
  pub few_reported : (E : List (Outcome V) → Type 0) (worker n : ℕ) (receipts : List (Record V)) (missed : List (ℕ × ℕ × LastAbort))
      → ((os : List (Outcome V)) → E os → length os ≡ n) → AreReported E worker receipts missed
      → (length receipts ≤ n) × (length missed ≤ n)
  few_reported E worker n receipts missed many h =
      let k = many h.outcomes h.each in
      let r = few_receipts h.outcomes in
      let m = few_missed worker 0 h.outcomes in
      let p = ap length h.receipts_are in
      let q = ap length h.missed_are in
      (omega arith, omega arith)

  -- one outcome more
  more_reported : (E F : List (Outcome V) → Type 0) (worker n : ℕ) (receipts : List (Record V)) (missed : List (ℕ × ℕ × LastAbort))
      (o : Outcome V) → ((os : List (Outcome V)) → E os → length os ≡ n) → ((os : List (Outcome V)) → E os → F (os ++ o ∷ []))
      → AreReported E worker receipts missed
      → AreReported F worker (receipts ++ receipts_in (o ∷ [])) (missed ++ missed_in worker n (o ∷ []))
  more_reported E F worker n receipts missed o many more h =
      let k = many h.outcomes h.each in
      let place : n ≡ 0 + length h.outcomes = omega arith in
      record {
        outcomes = h.outcomes ++ o ∷ [];
        each = more h.outcomes h.each;
        receipts_are = ap (λ (rs : List (Record V)). rs ++ receipts_in (o ∷ [])) h.receipts_are ∙ sym (receipts_after h.outcomes o);
        missed_are = ap (λ (ms : List (ℕ × ℕ × LastAbort)). ms ++ missed_in worker n (o ∷ [])) h.missed_are
            ∙ (ap (λ (p : ℕ). missed_in worker 0 h.outcomes ++ missed_in worker p (o ∷ [])) place
            ∙ sym (missed_after worker 0 h.outcomes o));
      }

  none_reported : (E : List (Outcome V) → Type 0) (worker : ℕ) → E [] → AreReported E worker [] []
  none_reported E worker h = record { outcomes = []; each = h; receipts_are = refl; missed_are = refl }

  weaker : (E F : List (Outcome V) → Type 0) (worker : ℕ) (receipts : List (Record V)) (missed : List (ℕ × ℕ × LastAbort))
      → ((os : List (Outcome V)) → E os → F os) → AreReported E worker receipts missed → AreReported F worker receipts missed
  weaker E F worker receipts missed so h = record {
    outcomes = h.outcomes;
    each = so h.outcomes h.each;
    receipts_are = h.receipts_are;
    missed_are = h.missed_are;
  }

  pub none_more : (receipts after : List (Record V)) → receipts ≡ [] → after ≡ receipts ++ [] → after ≡ []
  none_more receipts after none more = more ∙ (append-nil receipts ∙ none)

module _ {J : Type 0} where
  -- the first jobs and the one after them
  next_job : (jobs : List J) (n : ℕ) (job : J) → n < length jobs → job ≡ get_or jobs n job → take (n + 1) jobs ≡ take n jobs ++ job ∷ []
  next_job jobs n job lt at = take_more jobs n job lt ∙ ap (λ (j : J). take n jobs ++ j ∷ []) (sym at)

module _ {V J : Type 0} where
  pub then_same : (task next last : Task V J) → IsSameTask task next → IsSameTask next last → IsSameTask task last
  then_same task next last g h = (h.0 ∙ g.0, h.1 ∙ g.1)

-- ---- a list of which no job was tried
module _ {V J : Type 0} where
  -- the first jobs so far
  abbrev pub LeftTo : ℕ → Task V J → Type 0
  LeftTo n task = IsReported (AreNotStarted (take n task.jobs.items)) task

  left_after : (jobs : List J) (os : List (Outcome V)) (job : J) → AreNotStarted jobs os
      → AreNotStarted (jobs ++ job ∷ []) (os ++ Err NotStarted ∷ [])
  left_after [] [] job h = (refl, tt)
  left_after [] (p ∷ os) job h = absurd h
  left_after (j ∷ jobs) [] job h = absurd h
  left_after (j ∷ jobs) (p ∷ os) job h = (h.0, left_after jobs os job h.1)

  pub many_left : (jobs : List J) (os : List (Outcome V)) → AreNotStarted jobs os → length os ≡ length jobs
  many_left [] [] h = refl
  many_left [] (p ∷ os) h = absurd h
  many_left (j ∷ jobs) [] h = absurd h
  many_left (j ∷ jobs) (p ∷ os) h = ap suc (many_left jobs os h.1)

  pub next_left : (worker : ℕ) (jobs : List J) (n : ℕ) (receipts : List (Record V)) (missed : List (ℕ × ℕ × LastAbort)) → n < length jobs
      → AreReported (AreNotStarted (take n jobs)) worker receipts missed
      → AreReported (AreNotStarted (take (n + 1) jobs)) worker (receipts ++ []) (missed ++ (worker, n, NotStarted) ∷ [])
  next_left worker [] n receipts missed lt h = absurd (omega arith)
  next_left worker (j ∷ jobs) n receipts missed lt h =
      let next = take_more (j ∷ jobs) n j lt in
      more_reported (AreNotStarted (take n (j ∷ jobs))) (AreNotStarted (take (n + 1) (j ∷ jobs))) worker n receipts missed (Err NotStarted)
      (λ os k. many_left (take n (j ∷ jobs)) os k ∙ length-take-le n (j ∷ jobs) (omega arith))
      (λ os k. rw next (left_after (take n (j ∷ jobs)) os (get_or (j ∷ jobs) n j) k)) h

-- ---- a list whose jobs are tried in turn
module _ {V J : Type 0} (asks : J → List (Reply V) → Ask V → Type 0) (t : TxTable V) (tries : ℕ) where
  -- the first jobs so far, which led the seat from s to u
  abbrev pub TriedTo : ℕ → Task V J → TxSeat V → TxSeat V → Type 0
  TriedTo n task s u = IsReported (λ os. AreTried asks t tries (take n task.jobs.items) os s u) task

  tried_after : (jobs : List J) (os : List (Outcome V)) (job : J) (o : Outcome V) (s m u : TxSeat V) → AreTried asks t tries jobs os s m
      → IsTried (asks job) t tries m u o → AreTried asks t tries (jobs ++ job ∷ []) (os ++ o ∷ []) s u
  tried_after [] [] job o s m u h new = (u, subst (λ (x : TxSeat V). IsTried (asks job) t tries x u o) h new, refl)
  tried_after [] (p ∷ os) job o s m u h new = absurd h
  tried_after (j ∷ jobs) [] job o s m u h new = absurd h
  tried_after (j ∷ jobs) (p ∷ os) job o s m u (v, first, rest) new = (v, first, tried_after jobs os job o v m u rest new)

  many_tried : (jobs : List J) (os : List (Outcome V)) (s u : TxSeat V) → AreTried asks t tries jobs os s u → length os ≡ length jobs
  many_tried [] [] s u h = refl
  many_tried [] (p ∷ os) s u h = absurd h
  many_tried (j ∷ jobs) [] s u h = absurd h
  many_tried (j ∷ jobs) (p ∷ os) s u (v, first, rest) = ap suc (many_tried jobs os v u rest)

  pub next_tried : (worker : ℕ) (jobs : List J) (n : ℕ) (receipts : List (Record V)) (missed : List (ℕ × ℕ × LastAbort)) (s m u : TxSeat V)
      (job : J) (o : Outcome V) → n < length jobs → job ≡ get_or jobs n job
      → AreReported (λ os. AreTried asks t tries (take n jobs) os s m) worker receipts missed → IsTried (asks job) t tries m u o
      → AreReported (λ os. AreTried asks t tries (take (n + 1) jobs) os s u) worker (receipts ++ receipts_in (o ∷ []))
      (missed ++ missed_in worker n (o ∷ []))
  next_tried worker jobs n receipts missed s m u job o lt at h new =
      let next = next_job jobs n job lt at in
      more_reported (λ os. AreTried asks t tries (take n jobs) os s m) (λ os. AreTried asks t tries (take (n + 1) jobs) os s u) worker n
      receipts missed o
      (λ os k. many_tried (take n jobs) os s m k ∙ length-take-le n jobs (omega arith))
      (λ os k. rw next (tried_after (take n jobs) os job o s m u k new)) h

  -- ---- a task
  pub none_tried : (task : Task V J) (s : TxSeat V) → task.receipts.items ≡ [] → task.missed.items ≡ [] → TriedTo 0 task s s
  none_tried task s r m = rw (r, m) (none_reported (λ os. AreTried asks t tries [] os s s) task.worker refl)

  pub all_tried : (task : Task V J) (n : ℕ) (s u : TxSeat V) → n ≡ length task.jobs.items → IsReady t s → TriedTo n task s u
      → IsDone asks t tries (actor s.seat) (view s.seat).turns (view u.seat).turns task
  all_tried task n s u e ready h =
      let all : take n task.jobs.items ≡ task.jobs.items = rw e (take-length task.jobs.items) in
      weaker (λ os. AreTried asks t tries (take n task.jobs.items) os s u)
      (AreTriedBy asks t tries (actor s.seat) (view s.seat).turns (view u.seat).turns task.jobs.items)
      task.worker task.receipts.items task.missed.items
      (λ os k. record {
        first = s;
        last = u;
        ready = ready;
        same = refl;
        from = refl;
        tried = subst (λ (js : List J). AreTried asks t tries js os s u) all k;
        more = [];
        to = sym (append-nil (view u.seat).turns);
      }) h

  pub many_by : (a : ℕ) (before after : List (Turn V)) (jobs : List J) (os : List (Outcome V))
      → AreTriedBy asks t tries a before after jobs os → length os ≡ length jobs
  many_by a before after jobs os h = many_tried jobs os h.first h.last h.tried

  -- the actor continued
  pub longer : (a : ℕ) (before after more : List (Turn V)) (task : Task V J) → IsDone asks t tries a before after task
      → IsDone asks t tries a before (after ++ more) task
  longer a before after more task h =
      weaker (AreTriedBy asks t tries a before after task.jobs.items) (AreTriedBy asks t tries a before (after ++ more) task.jobs.items)
      task.worker task.receipts.items task.missed.items
      (λ os k. record {
        first = k.first;
        last = k.last;
        ready = k.ready;
        same = k.same;
        from = k.from;
        tried = k.tried;
        more = k.more ++ more;
        to = ap (λ (is : List (Turn V)). is ++ more) k.to ∙ append_assoc (view k.last.seat).turns k.more more;
      }) h

-- ---- what a seat gains
module _ {V : Type 0} where
  pub none_joined : (s : TxSeat V) → GetsJoined s s []
  none_joined s = record { same = refl; joined = sym (append-nil (view s.seat).joined) }

  pub then_joined : (s m u : TxSeat V) (ps qs : Took V) → GetsJoined s m ps → GetsJoined m u qs → GetsJoined s u (ps ++ qs)
  then_joined s m u ps qs g h = record {
    same = h.same ∙ g.same;
    joined = h.joined ∙ (ap (λ (xs : Took V). xs ++ qs) g.joined ∙ append_assoc (view s.seat).joined ps qs);
  }

  pub keeps_joined : (s u : TxSeat V) → KeepsReceipts s.seat u.seat → GetsJoined s u []
  keeps_joined s u k = record { same = k.seat.1; joined = k.joined ∙ sym (append-nil (view s.seat).joined) }

  -- these receipts have numbers up to this one
  abbrev AreUpTo : ℕ → List (Record V) → Type 0
  AreUpTo n rs = All (λ (r : Record V). r.number ≤ n) rs

  up_to_more : (n m : ℕ) (rs : List (Record V)) → n ≤ m → AreUpTo n rs → AreUpTo m rs
  up_to_more n m rs le all =
      All-weaker (λ (r : Record V). r.number ≤ n) (λ (r : Record V). r.number ≤ m) (λ r few. omega (arith, few, le)) rs all

  up_to_both : (n : ℕ) (rs ps : List (Record V)) → AreUpTo n rs → AreUpTo n ps → AreUpTo n (rs ++ ps)
  up_to_both n rs ps of_rs of_ps = All-append (λ (r : Record V). r.number ≤ n) rs ps of_rs of_ps

  pub no_gain : (s : TxSeat V) → Gains s s []
  no_gain s = record {
    shares = refl;
    records = sym (append-nil (records_of s));
    last = omega arith;
    known = All-nil (λ (r : Record V). r.number ≤ s.seat.last);
  }

  pub then_gains : (s m u : TxSeat V) (rs ps : List (Record V)) → Gains s m rs → Gains m u ps → Gains s u (rs ++ ps)
  then_gains s m u rs ps g h =
      let low = g.last in
      let more = h.last in
      record {
        shares = h.shares ∙ g.shares;
        records = h.records ∙ (ap (λ (xs : List (Record V)). xs ++ ps) g.records ∙ append_assoc (records_of s) rs ps);
        last = omega (arith, low, more);
        known = up_to_both u.seat.last rs ps (up_to_more m.seat.last u.seat.last rs more g.known) h.known;
      }

  -- a seat that was split, and its halves joined again, each with receipts more: it has the receipts of both besides, and knows them
  pub both_gain : (n : ℕ) (s m o x y u : TxSeat V) (ps qs : List (Record V)) → n ≤ (view s.seat).shares
      → (view m.seat).shares ≡ (view s.seat).shares - n → (view m.seat).receipts ≡ (view s.seat).receipts → (view o.seat).shares ≡ n
      → (view o.seat).receipts ≡ [] → Gains m x ps → Gains o y qs → (view u.seat).shares ≡ (view x.seat).shares + (view y.seat).shares
      → (view u.seat).receipts ≡ (view x.seat).receipts ++ (view y.seat).receipts → m.seat.last ≡ s.seat.last
      → u.seat.last ≡ max x.seat.last y.seat.last → Gains s u (ps ++ qs)
  both_gain n s m o x y u ps qs fits of_m same of_o none first second of_u both kept last =
      let records : List (ℕ × Record V) → List (Record V) = map (λ (e : ℕ × Record V). e.1) in
      let of_x = first.shares in
      let of_y = second.shares in
      let by_first : records_of x ≡ records_of s ++ ps = first.records ∙ ap (λ (es : List (ℕ × Record V)). records es ++ ps) same in
      let by_second : records_of y ≡ qs = second.records ∙ ap (λ (es : List (ℕ × Record V)). records es ++ qs) none in
      let low = first.last in
      let of_first : x.seat.last ≤ u.seat.last = omega (arith, last) in
      let of_second : y.seat.last ≤ u.seat.last = omega (arith, last) in
      record {
        shares = omega (arith, of_m, of_o, of_u, of_x, of_y, fits);
        records = ap records both
            ∙ (map-append (λ (e : ℕ × Record V). e.1) (view x.seat).receipts (view y.seat).receipts
            ∙ ((λ i. by_first i ++ by_second i) ∙ append_assoc (records_of s) ps qs));
        last = omega (arith, low, kept, of_first);
        known = up_to_both u.seat.last ps qs (up_to_more x.seat.last u.seat.last ps of_first first.known)
            (up_to_more y.seat.last u.seat.last qs of_second second.known);
      }

  pub keeps_gains : (s m u : TxSeat V) (rs : List (Record V)) → Gains s m rs → KeepsReceipts m.seat u.seat → Gains s u rs
  keeps_gains s m u rs g k =
      let same : u.seat.last ≡ m.seat.last = k.seat.2 in
      let low = g.last in
      record {
        shares = k.shares ∙ g.shares;
        records = ap (λ (es : List (ℕ × Record V)). map (λ e. e.1) es) k.receipts ∙ g.records;
        last = omega (arith, low, same);
        known = up_to_more m.seat.last u.seat.last rs (omega (arith, same)) g.known;
      }

  module _ (asks : List (Reply V) → Ask V → Type 0) (t : TxTable V) where
    pub tried_gains : (tries : ℕ) (s u : TxSeat V) (o : Outcome V) → IsTried asks t tries s u o → Gains s u (receipts_in (o ∷ []))
    tried_gains tries s u (Ok r) h =
        let low = h.receipt.number.0 in
        let here = h.receipt.number.1 in
        let Known : Record V → Type 0 = λ q. q.number ≤ u.seat.last in
        record {
          shares = h.receipt.shares;
          records = ap (λ (es : List (ℕ × Record V)). map (λ e. e.1) es) h.receipt.gains
              ∙ map-append (λ (e : ℕ × Record V). e.1) (view s.seat).receipts ((actor s.seat, r) ∷ []);
          last = omega (arith, low, here);
          known = All-cons Known r [] (omega (arith, here)) (All-nil Known);
        }
    tried_gains tries s u (Err cause) h = keeps_gains s s u [] (no_gain s) h.none.keeps

    pub tried_joined : (tries : ℕ) (s u : TxSeat V) (o : Outcome V) → IsTried asks t tries s u o → GetsJoined s u []
    tried_joined tries s u (Ok r) h = record {
      same = h.receipt.same;
      joined = h.receipt.joined ∙ sym (append-nil (view s.seat).joined);
    }
    tried_joined tries s u (Err cause) h = keeps_joined s u h.none.keeps
