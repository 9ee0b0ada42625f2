-- Receipts of a run are audited without a fault, in whatever order they are handed in.
--
-- An audit takes records by number, at one number the writer first: so by a key that rises (`key`). In commit order the key of a writer is
-- below those after it. So what stands before a record there, and after it or beside it in the order of the audit, has its number and is
-- a reader, and so is the record, or nothing stands before it: taken out of its place and put first it finds the same state, and leaves it
-- to the others (`taken_out`). Record by record one order becomes the other (`permuted`).
use Rattle.std.proofs.Common.{◌≡◌, ℕ, suc, ◌+◌, ◌*◌, ◌<◌, ◌≤◌, Bool, true, false, cond, List, [], ◌∷◌, ◌++◌, take, drop}
use Rattle.std.proofs.Common.{inl, inr, ◌⊎◌, refl, sym, ◌∙◌, ap, subst, arith}
use Rattle.std.specs.Prelude.{All, map, ◌&&◌, ◌==◌, nat_lt}
use Rattle.std.specs.Coded.{Coded, codes}
use Rattle.std.specs.List.{sum_by}
use Rattle.std.specs.List.Sorted.{IsPermutation}
use Rattle.std.proofs.lemmas.Bool.{cases_Bool, cond-true, cond-false, false≢true}
use Rattle.std.proofs.lemmas.Bool.Decides.{nat_tests}
use Rattle.std.proofs.lemmas.List.{take-append-drop}
use Rattle.std.proofs.Math.Seq.{drop-cons}
use Rattle.std.proofs.lemmas.List.Elements.{All-cons, All-head, All-nil, All-tail}
use Rattle.std.proofs.lemmas.List.Sorted.{All-permutation, Contains-permutation, IsPermutation-map, IsPermutation-sym}
use Rattle.std.proofs.lemmas.List.Sorted.{sum_by-IsPermutation}
use Rattle.std.proofs.lemmas.List.Sums.{sum_by-append, sum_by-cons}
use Rattle.seq_model.specs.declared.record.Record.{Record}
use Rattle.seq_model.specs.Audit.{IsRunBetween, in_run_order, run_order}
use Rattle.seq_model.specs.Contents.{Contents}
use Rattle.seq_model.specs.Runs.{IsInCommitOrder, IsLegal, IsRun, NoneComesBefore, after_calls, after_run, comes_before, insert_record}
use Rattle.seq_model.specs.Runs.{is_writer}
use Rattle.seq_model.proofs.RunLemmas.{after_reads}
use Rattle.vac_model.specs.declared.action.Action.{Action}
use Rattle.vac_model.specs.Holdings.{Holdings}
use Rattle.client_sessions.specs.declared.entry.Entry.{Entry}
use Rattle.client_sessions.specs.Holding.{state_of}
use Rattle.vacation_core.specs.Served.{AreServedInOrder, Receipt, records_in}
use Rattle.vacation_core.proofs.ArrangeLemmas.{Arranged, arrange}

-- ---- keys
abbrev key_of : (number : ℕ) → (writes : Bool) → ℕ
key_of n w = 2 * n + cond w 0 1

-- what comes_before says, of numbers and flags alone
abbrev before : (n : ℕ) → Bool → ℕ → (m : ℕ) → Bool → ℕ → Bool
before n w a m x b = cond (nat_lt n m) true (cond (nat_lt m n) false (cond w true (cond x false (nat_lt a b))))

keys_rise : (n m : ℕ) (w x : Bool) (a b : ℕ) → before m x b n w a ≡ false → key_of n w ≤ key_of m x
keys_rise n m true true a b h = grind (arith, nat_tests)
keys_rise n m true false a b h = grind (arith, nat_tests)
keys_rise n m false true a b h = grind (arith, nat_tests)
keys_rise n m false false a b h = grind (arith, nat_tests)

writers_rise : (n m : ℕ) (w x : Bool) (a b : ℕ) → before m x b n w a ≡ false → w ≡ true → key_of n w < key_of m x
writers_rise n m true true a b h e = grind (arith, nat_tests)
writers_rise n m true false a b h e = grind (arith, nat_tests)
writers_rise n m false x a b h e = absurd (false≢true e)

keys_turn : (n m : ℕ) (w x : Bool) (a b : ℕ) → before n w a m x b ≡ true → key_of n w ≤ key_of m x
keys_turn n m true true a b h = grind (arith, nat_tests)
keys_turn n m true false a b h = grind (arith, nat_tests)
keys_turn n m false true a b h = grind (arith, nat_tests)
keys_turn n m false false a b h = grind (arith, nat_tests)

-- who writes at a number, and whose key is no writer's there
no_writer : (n m : ℕ) (w : Bool) → 2 * n < key_of m w → (w && (m == n)) ≡ false
no_writer n m true h = grind (arith, nat_tests)
no_writer n m false h = refl

writes_there : (n m : ℕ) (w : Bool) → (w && (m == n)) ≡ true → (w ≡ true) × (key_of m w ≡ 2 * n)
writes_there n m true h = (refl, grind (arith, nat_tests))
writes_there n m false h = absurd (false≢true h)

map_same : {A : Type 0} (xs : List A) → map (λ x. x) xs ≡ xs
map_same [] = refl
map_same (x ∷ xs) = ap (λ ys. x ∷ ys) (map_same xs)

module _ {V : Type 0} where
  abbrev key : Record V → ℕ
  key r = key_of r.number r.writes

  -- a record that says that it only reads changes nothing
  abbrev pub ReadsAsTold : Record V → Type 0
  ReadsAsTold r = r.writes ≡ false → is_writer r.calls ≡ false

  -- ---- runs of records, whoever committed them
  abbrev Runs : List (Record V) → Contents V → Type 0
  Runs [] s = Unit {0}
  Runs (r ∷ rs) s = IsLegal r.calls s × Runs rs (after_calls r.calls s)

  abbrev leaves : List (Record V) → Contents V → Contents V
  leaves [] s = s
  leaves (r ∷ rs) s = leaves rs (after_calls r.calls s)

  runs_of : (xs : List (ℕ × Record V)) (s : Contents V) → IsRun xs s → Runs (map (λ x. x.1) xs) s
  runs_of [] s run = tt
  runs_of (x ∷ xs) s run = (run.0, runs_of xs (after_calls x.1.calls s) run.1)

  run_by : (xs : List (ℕ × Record V)) (s : Contents V) → Runs (map (λ x. x.1) xs) s → IsRun xs s
  run_by [] s run = tt
  run_by (x ∷ xs) s run = (run.0, run_by xs (after_calls x.1.calls s) run.1)

  leaves_so : (xs : List (ℕ × Record V)) (s : Contents V) → after_run xs s ≡ leaves (map (λ x. x.1) xs) s
  leaves_so [] s = refl
  leaves_so (x ∷ xs) s = leaves_so xs (after_calls x.1.calls s)

  -- ---- order
  abbrev NotBelow : ℕ → Record V → Type 0
  NotBelow k r = k ≤ key r

  abbrev Sorted : List (Record V) → Type 0
  Sorted [] = Unit {0}
  Sorted (r ∷ rs) = All (NotBelow (key r)) rs × Sorted rs

  abbrev Follows : Record V → Record V → Type 0
  Follows r z = (key r ≤ key z) × (r.writes ≡ true → key r < key z)

  abbrev Rising : List (Record V) → Type 0
  Rising [] = Unit {0}
  Rising (r ∷ rs) = All (Follows r) rs × Rising rs

  all_follow : (x : ℕ × Record V) (ys : List (ℕ × Record V)) → NoneComesBefore x ys → All (Follows x.1) (map (λ y. y.1) ys)
  all_follow x [] none = All-nil (Follows x.1)
  all_follow x (y ∷ ys) none = All-cons (Follows x.1) y.1 (map (λ z. z.1) ys) (
    keys_rise x.1.number y.1.number x.1.writes y.1.writes x.0 y.0 none.0,
    writers_rise x.1.number y.1.number x.1.writes y.1.writes x.0 y.0 none.0,
  ) (all_follow x ys none.1)

  rising : (xs : List (ℕ × Record V)) → IsInCommitOrder xs → Rising (map (λ x. x.1) xs)
  rising [] o = tt
  rising (x ∷ xs) o = (all_follow x xs o.0, rising xs o.1)

  all_inserted : (P : Record V → Type 0) (r : ℕ × Record V) (xs : List (ℕ × Record V)) → P r.1 → All P (map (λ x. x.1) xs)
      → All P (map (λ x. x.1) (insert_record r xs))
  all_inserted P r [] p all = All-cons P r.1 [] p all
  all_inserted P r (x ∷ xs) p all =
      elim (comes_before r x) as (λ b. All P (map (λ x. x.1) (cond b (r ∷ x ∷ xs) (x ∷ insert_record r xs)))) [
        | true ↦ All-cons P r.1 (x.1 ∷ map (λ x. x.1) xs) p all
        | false ↦ All-cons P x.1 (map (λ x. x.1) (insert_record r xs)) (All-head P x.1 (map (λ x. x.1) xs) all)
            (all_inserted P r xs p (All-tail P x.1 (map (λ x. x.1) xs) all))
      ]

  higher : (k l : ℕ) (rs : List (Record V)) → k ≤ l → All (NotBelow l) rs → All (NotBelow k) rs
  higher k l [] le all = All-nil (NotBelow k)
  higher k l (r ∷ rs) le all =
      let here = All-head (NotBelow l) r rs all in
      All-cons (NotBelow k) r rs (omega (arith, here, le)) (higher k l rs le (All-tail (NotBelow l) r rs all))

  sorted_inserted : (r : ℕ × Record V) (xs : List (ℕ × Record V)) → Sorted (map (λ x. x.1) xs)
      → Sorted (map (λ x. x.1) (insert_record r xs))
  sorted_inserted r [] o = (All-nil (NotBelow (key r.1)), tt)
  sorted_inserted r (x ∷ xs) o =
      elim (comes_before r x) as (λ b. comes_before r x ≡ b → Sorted (map (λ x. x.1) (cond b (r ∷ x ∷ xs) (x ∷ insert_record r xs)))) [
        | true ↦ λ e. (
            let le = keys_turn r.1.number x.1.number r.1.writes x.1.writes r.0 x.0 e in
            (All-cons (NotBelow (key r.1)) x.1 (map (λ x. x.1) xs) le (higher (key r.1) (key x.1) (map (λ x. x.1) xs) le o.0), o))
        | false ↦ λ e. (
          all_inserted (NotBelow (key x.1)) r xs (keys_rise x.1.number r.1.number x.1.writes r.1.writes x.0 r.0 e) o.0,
          sorted_inserted r xs o.1,
        )
      ] refl

  sorted_run : (p : ℕ) (rs : List (Record V)) → Sorted (map (λ x. x.1) (in_run_order p rs))
  sorted_run p [] = tt
  sorted_run p (r ∷ rs) = sorted_inserted (p, r) (in_run_order (p + 1) rs) (sorted_run (p + 1) rs)

  -- ---- what is counted
  sum_inserted : (h : Record V → ℕ) (r : ℕ × Record V) (xs : List (ℕ × Record V))
      → sum_by h (map (λ x. x.1) (insert_record r xs)) ≡ h r.1 + sum_by h (map (λ x. x.1) xs)
  sum_inserted h r [] = sum_by-cons h r.1 []
  sum_inserted h r (x ∷ xs) =
      let first = sum_by-cons h x.1 (map (λ x. x.1) xs) in
      elim (comes_before r x) as (λ b. sum_by h (map (λ x. x.1) (cond b (r ∷ x ∷ xs) (x ∷ insert_record r xs)))
      ≡ h r.1 + sum_by h (map (λ x. x.1) (x ∷ xs))) [
        | true ↦ sum_by-cons h r.1 (x.1 ∷ map (λ x. x.1) xs)
        | false ↦ (
            let rest = sum_inserted h r xs in
            let all = sum_by-cons h x.1 (map (λ x. x.1) (insert_record r xs)) in
            omega (arith, first, rest, all))
      ]

  sum_run : (h : Record V → ℕ) (p : ℕ) (rs : List (Record V)) → sum_by h (map (λ x. x.1) (in_run_order p rs)) ≡ sum_by h rs
  sum_run h p [] = refl
  sum_run h p (r ∷ rs) =
      sum_inserted h (p, r) (in_run_order (p + 1) rs) ∙ ap (λ n. h r + n) (sum_run h (p + 1) rs) ∙ sym (sum_by-cons h r rs)

  -- ---- one writer at each number
  abbrev writes_at : ℕ → Record V → ℕ
  writes_at n r = cond (r.writes && (r.number == n)) 1 0

  none_writes : (n : ℕ) (rs : List (Record V)) → All (λ r. 2 * n < key r) rs → sum_by (writes_at n) rs ≡ 0
  none_writes n [] all = refl
  none_writes n (r ∷ rs) all =
      let P : Record V → Type 0 = λ r. 2 * n < key r in
      let here : writes_at n r ≡ 0 = cond-false (r.writes && (r.number == n)) 1 0 (no_writer n r.number r.writes (All-head P r rs all)) in
      let rest = none_writes n rs (All-tail P r rs all) in
      let sum = sum_by-cons (writes_at n) r rs in
      omega (arith, here, rest, sum)

  above : (n : ℕ) (r : Record V) (rs : List (Record V)) → r.writes ≡ true → key r ≡ 2 * n → All (Follows r) rs → All (λ z. 2 * n < key z) rs
  above n r [] w k all = All-nil (λ z. 2 * n < key z)
  above n r (z ∷ zs) w k all =
      let lt = (All-head (Follows r) z zs all).1 w in
      All-cons (λ z. 2 * n < key z) z zs (omega (arith, lt, k)) (above n r zs w k (All-tail (Follows r) z zs all))

  one_writes : (n : ℕ) (rs : List (Record V)) → Rising rs → sum_by (writes_at n) rs ≤ 1
  one_writes n [] o = omega arith
  one_writes n (r ∷ rs) o =
      let sum = sum_by-cons (writes_at n) r rs in
      elim (cases_Bool (r.writes && (r.number == n))) [
        | inl is ↦ (
            let w = writes_there n r.number r.writes is in
            let rest = none_writes n rs (above n r rs w.0 w.1 o.0) in
            let here : writes_at n r ≡ 1 = cond-true (r.writes && (r.number == n)) 1 0 is in
            omega (arith, here, rest, sum))
        | inr isnt ↦ (
            let rest = one_writes n rs o.1 in
            let here : writes_at n r ≡ 0 = cond-false (r.writes && (r.number == n)) 1 0 isnt in
            omega (arith, here, rest, sum))
      ]

  -- ---- a record is taken out of its place and put first
  abbrev Reads : Record V → Type 0
  Reads r = is_writer r.calls ≡ false

  record TakenOut (front behind : List (Record V)) (y : Record V) (s : Contents V) : Type 0 where
    legal : IsLegal y.calls s
    others : Runs (front ++ behind) (after_calls y.calls s)
    left : leaves (front ++ behind) (after_calls y.calls s) ≡ leaves (front ++ y ∷ behind) s

  taken_out : (front behind : List (Record V)) (y : Record V) (s : Contents V) → All Reads front → (front ≡ []) ⊎ Reads y
      → Runs (front ++ y ∷ behind) s → TakenOut front behind y s
  taken_out [] behind y s reads own run = record { legal = run.0; others = run.1; left = refl }
  taken_out (b ∷ bs) behind y s reads own run =
      let mine : Reads y = by own in
      let same : after_calls b.calls s ≡ s = after_reads b.calls s (All-head Reads b bs reads) run.0 in
      let rest : TakenOut bs behind y s = taken_out bs behind y s (All-tail Reads b bs reads) (inr mine)
      (subst (Runs (bs ++ y ∷ behind)) same run.1) in
      let still : after_calls y.calls s ≡ s = after_reads y.calls s mine rest.legal in
      record {
        legal = rest.legal;
        others = subst (Runs (b ∷ (bs ++ behind))) (sym still)
            (run.0, subst (Runs (bs ++ behind)) (still ∙ sym same) rest.others);
        left = ap (leaves (b ∷ (bs ++ behind))) still ∙ ap (leaves (bs ++ behind)) (same ∙ sym still) ∙ rest.left
            ∙ ap (leaves (bs ++ y ∷ behind)) (sym same);
      }
    where
      by : ((b ∷ bs) ≡ []) ⊎ Reads y → Reads y
      by (inl none) = absurd (let e : b ∷ bs ≡ [] = none in cc)
      by (inr is) = is

  -- ---- one order becomes the other
  without : (h : Record V → ℕ) (xs ys : List (Record V)) (x : Record V) → sum_by h (xs ++ x ∷ ys) ≡ h x + sum_by h (xs ++ ys)
  without h xs ys x =
      let all = sum_by-append h xs (x ∷ ys) in
      let here = sum_by-cons h x ys in
      let rest = sum_by-append h xs ys in
      omega (arith, all, here, rest)

  all_without : (P : Record V → Type 0) (xs ys : List (Record V)) (x : Record V) → All P (xs ++ x ∷ ys) → All P (xs ++ ys)
  all_without P [] ys x all = All-tail P x ys all
  all_without P (z ∷ xs) ys x all =
      All-cons P z (xs ++ ys) (All-head P z (xs ++ x ∷ ys) all) (all_without P xs ys x (All-tail P z (xs ++ x ∷ ys) all))

  rising_without : (xs ys : List (Record V)) (x : Record V) → Rising (xs ++ x ∷ ys) → Rising (xs ++ ys)
  rising_without [] ys x o = o.1
  rising_without (z ∷ xs) ys x o = (all_without (Follows z) xs ys x o.0, rising_without xs ys x o.1)

  -- what stands before a record with the least key reads, and so does the record, if anything stands there
  fronts_read : (front behind : List (Record V)) (y : Record V) → Rising (front ++ y ∷ behind)
      → All (NotBelow (key y)) (front ++ y ∷ behind) → All ReadsAsTold (front ++ y ∷ behind) → All Reads front × ((front ≡ []) ⊎ Reads y)
  fronts_read [] behind y o least told = (All-nil Reads, inl refl)
  fronts_read (b ∷ bs) behind y o least told =
      let le = All-head (NotBelow (key y)) b (bs ++ y ∷ behind) least in
      let follows = middle (Follows b) bs o.0 in
      let rest = fronts_read bs behind y o.1 (All-tail (NotBelow (key y)) b (bs ++ y ∷ behind) least)
      (All-tail ReadsAsTold b (bs ++ y ∷ behind) told) in
      let flags = only_reads b.number y.number b.writes y.writes le follows.0 follows.1 in (
        All-cons Reads b bs (All-head ReadsAsTold b (bs ++ y ∷ behind) told flags.0) rest.0,
        inr (middle ReadsAsTold (b ∷ bs) told flags.1),
      )
    where
      middle : (P : Record V → Type 0) (front : List (Record V)) → All P (front ++ y ∷ behind) → P y
      middle P [] all = All-head P y behind all
      middle P (b ∷ bs) all = middle P bs (All-tail P b (bs ++ y ∷ behind) all)

      only_reads : (n m : ℕ) (w x : Bool) → key_of m x ≤ key_of n w → key_of n w ≤ key_of m x → (w ≡ true → key_of n w < key_of m x)
          → (w ≡ false) × (x ≡ false)
      only_reads n m true x ge le lt = absurd (let less = lt refl in omega (arith, ge, less))
      only_reads n m false true ge le lt = absurd (omega (arith, ge, le))
      only_reads n m false false ge le lt = (refl, refl)

  module _ (c : Coded (Record V)) where
    permutes : (xs ys : List (Record V)) → ((h : Record V → ℕ) → sum_by h xs ≡ sum_by h ys) → IsPermutation xs ys
    permutes xs ys same =
        let r : Arranged c (λ x. x) xs ys = arrange c (λ x. x) ys xs (λ h. ap (sum_by h) (map_same xs) ∙ same h) in
        subst (IsPermutation xs) (sym (map_same r.arranged) ∙ r.are) r.same

    record IsAmong (y : Record V) (xs : List (Record V)) : Type 0 where
      front : List (Record V)
      behind : List (Record V)
      is : xs ≡ front ++ y ∷ behind

    among : (y : Record V) (ys xs : List (Record V)) → IsPermutation xs (y ∷ ys) → IsAmong y xs
    among y ys xs p =
        let at = Contains-permutation (y ∷ ys) xs y (IsPermutation-sym xs (y ∷ ys) p) (0, omega arith, refl) in
        record {
          front = take at.0 xs;
          behind = drop (suc at.0) xs;
          is = sym (take-append-drop at.0 xs) ∙ ap (λ zs. take at.0 xs ++ zs) (drop-cons xs at.0 y at.1)
              ∙ ap (λ z. take at.0 xs ++ z ∷ drop (suc at.0) xs) at.2;
        }

    none_left : (xs : List (Record V)) → sum_by (λ b. 1) xs ≡ sum_by (λ (b : Record V). 1) [] → xs ≡ []
    none_left [] e = refl
    none_left (x ∷ xs) e = (let all = sum_by-cons (λ b. 1) x xs in absurd (omega (arith, all, e)))

    permuted : (ys xs : List (Record V)) (s : Contents V) → Rising xs → Sorted ys → ((h : Record V → ℕ) → sum_by h xs ≡ sum_by h ys)
        → All ReadsAsTold xs → Runs xs s → Runs ys s × (leaves ys s ≡ leaves xs s)
    permuted [] xs s o sorted same told run = (tt, ap (λ zs. leaves zs s) (sym (none_left xs (same (λ b. 1)))))
    permuted (y ∷ ys) xs s o sorted same told run =
        let p = permutes xs (y ∷ ys) same in
        let at = among y ys xs p in
        let whole = at.front ++ y ∷ at.behind in
        let least : All (NotBelow (key y)) xs = All-permutation (NotBelow (key y)) (y ∷ ys) xs (IsPermutation-sym xs (y ∷ ys) p)
        (All-cons (NotBelow (key y)) y ys (omega arith) sorted.0) in
        let rises : Rising whole = subst Rising at.is o in
        let tells : All ReadsAsTold whole = subst (All ReadsAsTold) at.is told in
        let reads = fronts_read at.front at.behind y rises (subst (All (NotBelow (key y))) at.is least) tells in
        let out = taken_out at.front at.behind y s reads.0 reads.1 (subst (λ zs. Runs zs s) at.is run) in
        let others = at.front ++ at.behind in
        let rest = permuted ys others (after_calls y.calls s) (rising_without at.front at.behind y rises) sorted.1 (λ h.
        let all = ap (sum_by h) at.is in
        let less = without h at.front at.behind y in
        let equal = same h in
        let first = sum_by-cons h y ys in
        omega (arith, all, less, equal, first)) (all_without ReadsAsTold at.front at.behind y tells) out.others in
        ((out.legal, rest.0), rest.1 ∙ out.left ∙ ap (λ zs. leaves zs s) (sym at.is))

    -- so records that are those of a run in commit order are a run for the audit
    pub run_between : (opening : Contents V) (order : List (ℕ × Record V)) (records : List (Record V)) → IsInCommitOrder order
        → IsRun order opening → All ReadsAsTold (map (λ x. x.1) order) → IsPermutation records (map (λ x. x.1) order)
        → IsRunBetween opening records (after_run order opening)
    run_between opening order records o run told same =
        let theirs : List (Record V) = map (λ x. x.1) order in
        let audited : List (Record V) = map (λ x. x.1) (run_order records) in
        let rises = rising order o in
        let sums : (h : Record V → ℕ) → sum_by h theirs ≡ sum_by h records = λ h. sum_by-IsPermutation h records theirs same in
        let p = permuted audited theirs opening rises (sorted_run 0 records) (λ h. sums h ∙ sym (sum_run h 0 records)) told
        (runs_of order opening run) in (
          λ n. (let one = one_writes n theirs rises in let equal = sums (writes_at n) in omega (arith, one, equal)),
          run_by (run_order records) opening p.0,
          leaves_so (run_order records) opening ∙ p.1 ∙ sym (leaves_so order opening),
        )

-- ---- receipts of sessions
record_code : Coded (Record Entry)
record_code = hlevel codes

as_reported : (xs : List Receipt) → map (λ (d : Action × Record Entry). d.1) (map (λ x. (x.0, x.1.1)) xs) ≡ map (λ x. x.1.1) xs
as_reported [] = refl
as_reported (x ∷ xs) = ap (λ (rs : List (Record Entry)). x.1.1 ∷ rs) (as_reported xs)

in_records : (xs : List Receipt) → map (λ (e : ℕ × Record Entry). e.1) (records_in xs) ≡ map (λ x. x.1.1) xs
in_records [] = refl
in_records (x ∷ xs) = ap (λ (rs : List (Record Entry)). x.1.1 ∷ rs) (in_records xs)

-- those that are their actions in commit order are a run for the audit
pub audited_in_order : (tables : Holdings) (own : List Receipt) (order : List (ℕ × Record Entry)) (records : List (Record Entry))
    → AreServedInOrder tables own order → map (λ (d : Action × Record Entry). d.1) (map (λ x. (x.0, x.1.1)) own) ≡ records
    → All ReadsAsTold records → IsRunBetween (state_of tables) records (after_run order (state_of tables))
audited_in_order tables own order records served are told =
    let mark : Receipt → Record Entry = λ x. x.1.1 in
    let theirs : List (Record Entry) = map (λ (e : ℕ × Record Entry). e.1) order in
    let mine : map mark own ≡ records = sym (as_reported own) ∙ are in
    let arranged : map mark served.arranged ≡ theirs =
    sym (in_records served.arranged) ∙ ap (map (λ (e : ℕ × Record Entry). e.1)) served.ordered in
    let same : IsPermutation records theirs =
    subst (λ (rs : List (Record Entry)). IsPermutation rs theirs) mine
    (subst (λ (rs : List (Record Entry)). IsPermutation (map mark own) rs) arranged
    (IsPermutation-map mark own served.arranged served.same)) in
    run_between record_code (state_of tables) order records served.served.ordered served.served.run
    (All-permutation ReadsAsTold records theirs same told) same
