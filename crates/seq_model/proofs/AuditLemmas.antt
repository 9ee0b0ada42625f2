-- What an audit computes is what its definitions say.
use Rattle.std.proofs.Common.{◌≡◌, ◌≢◌, ℕ, zero, suc, ◌+◌, ◌<◌, ◌≤◌, Bool, true, false, cond, not, ◌&&◌, ◌==◌, List, [], ◌∷◌, ◌++◌, length}
use Rattle.std.proofs.Common.{get_or, take, map, nat_cmp, is_lt, Option, Some, None, refl, sym, ◌∙◌, ap, subst, arith, inl, inr, count_by}
use Rattle.std.specs.Prelude.{nat_lt}
use Rattle.std.specs.Ordering.{bool_cmp, ordering_then}
use Rattle.std.proofs.lemmas.Bool.{cond-true, cond-false, cases_Bool, false≢true}
use Rattle.std.proofs.lemmas.Bool.Decides.{nat_tests}
use Rattle.std.proofs.lemmas.List.Sums.{sum_by-cons}
use Rattle.seq_model.specs.declared.call.Call.{Call}
use Rattle.seq_model.specs.declared.call.Reply.{Reply}
use Rattle.seq_model.specs.declared.record.Record.{Record}
use Rattle.seq_model.specs.Contents.{Contents}
use Rattle.seq_model.specs.Runs.{reply_of, after_call, IsLegal, after_calls, comes_before, insert_record, IsRun, after_run}
use Rattle.seq_model.specs.Ranks.{Rank, rank_of, ranks_from, is_before, put_rank, sort_ranks, NoneIsBefore, AreRanked, writes_at}
use Rattle.seq_model.specs.Audit.{in_run_order, writers_at, IsLeastDouble, IsFirstWrong, IsFirstWrongAt}
use Rattle.seq_model.proofs.RankLemmas.{rising_numbers}

-- ---- turns of records
-- with its place below the other's, a record comes before it where its turn does
ahead : (n m a b : ℕ) (w v : Bool) → a < b → cond (nat_lt n m) true (cond (nat_lt m n) false (cond w true (cond v false (nat_lt a b))))
    ≡ is_lt (ordering_then (ordering_then (nat_cmp n m) (bool_cmp (not w) (not v))) (nat_cmp a b))
ahead n m a b true true lt = grind (arith, nat_tests)
ahead n m a b true false lt = grind (arith, nat_tests)
ahead n m a b false true lt = grind (arith, nat_tests)
ahead n m a b false false lt = grind (arith, nat_tests)

module _ {V : Type 0} where
  abbrev PlacedFrom : ℕ → List (ℕ × Record V) → Type 0
  PlacedFrom place [] = Unit {0}
  PlacedFrom place (e ∷ es) = (place ≤ e.0) × PlacedFrom place es

  placed_later : (p q : ℕ) (es : List (ℕ × Record V)) → p ≤ q → PlacedFrom q es → PlacedFrom p es
  placed_later p q [] le h = tt
  placed_later p q (e ∷ es) le h = (omega (arith, h.0), placed_later p q es le h.1)

  placed_inserted : (p : ℕ) (e : ℕ × Record V) (es : List (ℕ × Record V)) → p ≤ e.0 → PlacedFrom p es → PlacedFrom p (insert_record e es)
  placed_inserted p e [] le h = (le, tt)
  placed_inserted p e (x ∷ xs) le h =
      elim (comes_before e x) as (λ b. PlacedFrom p (cond b (e ∷ x ∷ xs) (x ∷ insert_record e xs)))
      [ true ↦ (le, h) | false ↦ (h.0, placed_inserted p e xs le h.1) ]

  placed_order : (p : ℕ) (rs : List (Record V)) → PlacedFrom p (in_run_order p rs)
  placed_order p [] = tt
  placed_order p (r ∷ rs) = placed_inserted p (p, r) (in_run_order (p + 1) rs) (omega arith)
      (placed_later p (p + 1) (in_run_order (p + 1) rs) (omega arith) (placed_order (p + 1) rs))

  turns_inserted : (e : ℕ × Record V) (es : List (ℕ × Record V)) → PlacedFrom (e.0 + 1) es
      → map rank_of (insert_record e es) ≡ put_rank (rank_of e) (map rank_of es)
  turns_inserted e [] h = refl
  turns_inserted e (x ∷ xs) h =
      let same = ahead e.1.number x.1.number e.0 x.0 e.1.writes x.1.writes (omega (arith, h.0)) in
      elim (cases_Bool (comes_before e x)) [
        | inl goes ↦ ap (map rank_of) (cond-true _ _ _ goes) ∙ sym (cond-true _ _ _ (sym same ∙ goes))
        | inr stays ↦
            ap (map rank_of) (cond-false _ _ _ stays) ∙ ap (λ l. rank_of x ∷ l) (turns_inserted e xs h.1)
            ∙ sym (cond-false _ _ _ (sym same ∙ stays))
      ]

  pub turns_run_order : (p : ℕ) (rs : List (Record V)) → map rank_of (in_run_order p rs) ≡ sort_ranks (ranks_from p rs)
  turns_run_order p [] = refl
  turns_run_order p (r ∷ rs) = turns_inserted (p, r) (in_run_order (p + 1) rs) (placed_order (p + 1) rs)
      ∙ ap (put_rank (rank_of {V = V} (p, r))) (turns_run_order (p + 1) rs)

  pub turns_from-more : (place i p : ℕ) (rs : List (Record V)) (d : Record V) → i < length rs → p ≡ place + i
      → ranks_from place (take (suc i) rs) ≡ ranks_from place (take i rs) ++ rank_of {V = V} (p, get_or rs i d) ∷ []
  turns_from-more place i p [] d lt e = absurd (omega arith)
  turns_from-more place zero p (r ∷ rs) d lt e = let same : place ≡ p = omega arith in ap (λ q. rank_of {V = V} (q, r) ∷ []) same
  turns_from-more place (suc i) p (r ∷ rs) d lt e = ap (λ l. rank_of {V = V} (place, r) ∷ l)
      (turns_from-more (place + 1) i p rs d (omega arith) (omega arith))

  -- ---- each entry of the run order is a record that was handed in, at its place
  abbrev pub IsHandedIn : ℕ → List (Record V) → ℕ × Record V → Type 0
  IsHandedIn p rs e = (k : ℕ) × (e.0 ≡ p + k) × (k < length rs) × ((d : Record V) → get_or rs k d ≡ e.1)

  abbrev pub AllHandedIn : ℕ → List (Record V) → List (ℕ × Record V) → Type 0
  AllHandedIn p rs [] = Unit {0}
  AllHandedIn p rs (e ∷ es) = IsHandedIn p rs e × AllHandedIn p rs es

  handed_inserted : (p : ℕ) (rs : List (Record V)) (e : ℕ × Record V) (es : List (ℕ × Record V)) → IsHandedIn p rs e → AllHandedIn p rs es
      → AllHandedIn p rs (insert_record e es)
  handed_inserted p rs e [] one all = (one, tt)
  handed_inserted p rs e (x ∷ xs) one all =
      elim (comes_before e x) as (λ b. AllHandedIn p rs (cond b (e ∷ x ∷ xs) (x ∷ insert_record e xs)))
      [ true ↦ (one, all) | false ↦ (all.0, handed_inserted p rs e xs one all.1) ]

  handed_behind : (p : ℕ) (r : Record V) (rs : List (Record V)) (es : List (ℕ × Record V)) → AllHandedIn (p + 1) rs es
      → AllHandedIn p (r ∷ rs) es
  handed_behind p r rs [] h = tt
  handed_behind p r rs (e ∷ es) h = ((suc h.0.0, omega (arith, h.0.1), omega (arith, h.0.2), h.0.3), handed_behind p r rs es h.1)

  pub handed_order : (p : ℕ) (rs : List (Record V)) → AllHandedIn p rs (in_run_order p rs)
  handed_order p [] = tt
  handed_order p (r ∷ rs) = handed_inserted p (r ∷ rs) (p, r) (in_run_order (p + 1) rs) (zero, omega arith, omega arith, λ d. refl)
      (handed_behind p r rs (in_run_order (p + 1) rs) (handed_order (p + 1) rs))

  handed_at : (p : ℕ) (rs : List (Record V)) (es : List (ℕ × Record V)) (i : ℕ) (d : ℕ × Record V) → AllHandedIn p rs es → i < length es
      → IsHandedIn p rs (get_or es i d)
  handed_at p rs [] i d h lt = absurd (omega arith)
  handed_at p rs (e ∷ es) zero d h lt = h.0
  handed_at p rs (e ∷ es) (suc i) d h lt = handed_at p rs es i d h.1 (omega arith)

  pub handed_in : (rs : List (Record V)) (i : ℕ) (d : ℕ × Record V) → i < length (in_run_order 0 rs)
      → ((get_or (in_run_order 0 rs) i d).0 < length rs) × ((e : Record V)
      → get_or rs (get_or (in_run_order 0 rs) i d).0 e ≡ (get_or (in_run_order 0 rs) i d).1)
  handed_in rs i d lt =
      let h = handed_at 0 rs (in_run_order 0 rs) i d (handed_order 0 rs) lt in
      let same : (get_or (in_run_order 0 rs) i d).0 ≡ h.0 = omega (arith, h.1) in
      (omega (arith, h.1, h.2), λ e. ap (λ k. get_or rs k e) same ∙ h.3 e)

  -- ---- calls in turn
  pub legal_more : (cs : List (Call V × Reply V)) (i : ℕ) (s : Contents V) (d : Call V × Reply V) → i < length cs → IsLegal (take i cs) s
      → reply_of (get_or cs i d).0 (after_calls (take i cs) s) ≡ Some (get_or cs i d).1 → IsLegal (take (suc i) cs) s
  legal_more [] i s d lt h g = absurd (omega arith)
  legal_more (c ∷ cs) zero s d lt h g = (g, tt)
  legal_more (c ∷ cs) (suc i) s d lt h g = (h.0, legal_more cs i (after_call c.0 s) d (omega arith) h.1 g)

  pub after_more : (cs : List (Call V × Reply V)) (i : ℕ) (s : Contents V) (d : Call V × Reply V) → i < length cs
      → after_calls (take (suc i) cs) s ≡ after_call (get_or cs i d).0 (after_calls (take i cs) s)
  after_more [] i s d lt = absurd (omega arith)
  after_more (c ∷ cs) zero s d lt = refl
  after_more (c ∷ cs) (suc i) s d lt = after_more cs i (after_call c.0 s) d (omega arith)

  pub wrong_here : (cs : List (Call V × Reply V)) (i : ℕ) (s : Contents V) (d : Call V × Reply V) → i < length cs → IsLegal (take i cs) s
      → reply_of (get_or cs i d).0 (after_calls (take i cs) s) ≢ Some (get_or cs i d).1 → IsFirstWrong i cs s
  wrong_here [] i s d lt h g = absurd (omega arith)
  wrong_here (c ∷ cs) zero s d lt h g = g
  wrong_here (c ∷ cs) (suc i) s d lt h g = (h.0, wrong_here cs i (after_call c.0 s) d (omega arith) h.1 g)

  -- ---- records in turn
  pub run_more : (rs : List (ℕ × Record V)) (i : ℕ) (s : Contents V) (d : ℕ × Record V) → i < length rs → IsRun (take i rs) s
      → IsLegal (get_or rs i d).1.calls (after_run (take i rs) s) → IsRun (take (suc i) rs) s
  run_more [] i s d lt h g = absurd (omega arith)
  run_more (r ∷ rs) zero s d lt h g = (g, tt)
  run_more (r ∷ rs) (suc i) s d lt h g = (h.0, run_more rs i (after_calls r.1.calls s) d (omega arith) h.1 g)

  pub after_run_more : (rs : List (ℕ × Record V)) (i : ℕ) (s : Contents V) (d : ℕ × Record V) → i < length rs
      → after_run (take (suc i) rs) s ≡ after_calls (get_or rs i d).1.calls (after_run (take i rs) s)
  after_run_more [] i s d lt = absurd (omega arith)
  after_run_more (r ∷ rs) zero s d lt = refl
  after_run_more (r ∷ rs) (suc i) s d lt = after_run_more rs i (after_calls r.1.calls s) d (omega arith)

  pub wrong_at : (rs : List (ℕ × Record V)) (i : ℕ) (s : Contents V) (d : ℕ × Record V) (entry call : ℕ) → i < length rs
      → IsRun (take i rs) s → (get_or rs i d).0 ≡ entry → IsFirstWrong call (get_or rs i d).1.calls (after_run (take i rs) s)
      → IsFirstWrongAt entry call rs s
  wrong_at [] i s d entry call lt h e g = absurd (omega arith)
  wrong_at (r ∷ rs) zero s d entry call lt h e g = inl (e, g)
  wrong_at (r ∷ rs) (suc i) s d entry call lt h e g = inr (h.0, wrong_at rs i (after_calls r.1.calls s) d entry call (omega arith) h.1 e g)

-- ---- numbers that writers share
exchange : (a b m n : ℕ) → m ≡ b + n → a + m ≡ b + (a + n)
exchange a b m n e = omega arith

count-cons : {X : Type 0} (p : X → Bool) (x : X) (xs : List X) → count_by p (x ∷ xs) ≡ cond (p x) 1 0 + count_by p xs
count-cons p x xs = sum_by-cons (λ y. cond (p y) 1 0) x xs

pub counted_put : (p : Rank → Bool) (t : Rank) (ts : List Rank) → count_by p (put_rank t ts) ≡ count_by p (t ∷ ts)
counted_put p t [] = refl
counted_put p t (u ∷ us) =
    elim (cases_Bool (is_before t u)) [
      | inl goes ↦ ap (count_by p) (cond-true _ _ _ goes)
      | inr stays ↦
          ap (count_by p) (cond-false _ _ _ stays) ∙ count-cons p u (put_rank t us)
          ∙ exchange (cond (p u) 1 0) (cond (p t) 1 0) (count_by p (put_rank t us)) (count_by p us) (counted_put p t us ∙ count-cons p t us)
          ∙ ap (λ n. cond (p t) 1 0 + n) (sym (count-cons p u us)) ∙ sym (count-cons p t (u ∷ us))
    ]

pub counted_sorted : (p : Rank → Bool) (ts : List Rank) → count_by p (sort_ranks ts) ≡ count_by p ts
counted_sorted p [] = refl
counted_sorted p (t ∷ ts) = counted_put p t (sort_ranks ts) ∙ count-cons p t (sort_ranks ts)
    ∙ ap (λ n. cond (p t) 1 0 + n) (counted_sorted p ts) ∙ sym (count-cons p t ts)

not_not : (w b : Bool) → (not (not w) && b) ≡ (w && b)
not_not true b = refl
not_not false b = refl

pub counted_records : {V : Type 0} (n place : ℕ) (rs : List (Record V)) → count_by (writes_at n) (ranks_from place rs) ≡ writers_at rs n
counted_records {V} n place [] = refl
counted_records {V} n place (r ∷ rs) =
    count-cons (writes_at n) (rank_of {V = V} (place, r)) (ranks_from (place + 1) rs)
    ∙ ap (λ b. cond b 1 0 + count_by (writes_at n) (ranks_from (place + 1) rs)) (not_not r.writes (r.number == n))
    ∙ ap (λ m. cond (r.writes && (r.number == n)) 1 0 + m) (counted_records {V = V} n (place + 1) rs)
    ∙ sym (count-cons (λ (x : Record V). x.writes && (x.number == n)) r rs)

pub least_alike : (f g : ℕ → ℕ) (r : Option ℕ) → ((n : ℕ) → f n ≡ g n) → IsLeastDouble f r → IsLeastDouble g r
least_alike f g None e h = λ n. omega (arith, e n, h n)
least_alike f g (Some n) e h = (omega (arith, e n, h.0), λ m lt. omega (arith, e m, h.1 m lt))

-- ---- the least of them, found along turns whose numbers rise
abbrev number_is : Option ℕ → ℕ → Bool
number_is None n = false
number_is (Some m) n = m == n

-- the search, after a writer with the number last
abbrev pub double_behind : Option ℕ → List Rank → Option ℕ
double_behind last [] = None
double_behind last (t ∷ ts) = cond t.1 (double_behind last ts) (cond (number_is last t.0) (Some t.0) (double_behind (Some t.0) ts))

abbrev AllFrom : ℕ → List Rank → Type 0
AllFrom n [] = Unit {0}
AllFrom n (t ∷ ts) = (n ≤ t.0) × AllFrom n ts

abbrev AllBehind : Option ℕ → List Rank → Type 0
AllBehind None ts = Unit {0}
AllBehind (Some n) ts = AllFrom n ts

abbrev Rise : List Rank → Type 0
Rise [] = Unit {0}
Rise (t ∷ ts) = AllFrom t.0 ts × Rise ts

abbrev counted : Option ℕ → List Rank → ℕ → ℕ
counted last ts n = cond (number_is last n) 1 0 + count_by (writes_at n) ts

all_from : (t : Rank) (ts : List Rank) → NoneIsBefore t ts → AllFrom t.0 ts
all_from t [] h = tt
all_from t (u ∷ us) h = (rising_numbers u.0 t.0 u.2 t.2 u.1 t.1 h.0, all_from t us h.1)

rise : (ts : List Rank) → AreRanked ts → Rise ts
rise [] h = tt
rise (t ∷ ts) h = (all_from t ts h.0, rise ts h.1)

all_behind : (last : Option ℕ) (t : Rank) (ts : List Rank) → AllBehind last (t ∷ ts) → AllBehind last ts
all_behind None t ts h = tt
all_behind (Some n) t ts h = h.1

same_number : (n m : ℕ) → (n == m) ≡ true → n ≡ m
same_number n m h = grind (arith, nat_tests)

other_number : (n m : ℕ) → (n == m) ≡ false → n ≢ m
other_number n m h = grind (arith, nat_tests)

pub tested_same : (n : ℕ) → (n == n) ≡ true
tested_same n = grind (arith, nat_tests)

tested_other : (n m : ℕ) → n ≢ m → (n == m) ≡ false
tested_other n m h = grind (arith, nat_tests)

uncounted : (r : Bool) (n : ℕ) → n ≡ 0 → cond (not r && false) 1 0 + n ≡ 0
uncounted true n h = omega arith
uncounted false n h = omega arith

none_below : (n m : ℕ) (ts : List Rank) → m < n → AllFrom n ts → count_by (writes_at m) ts ≡ 0
none_below n m [] lt h = refl
none_below n m (t ∷ ts) lt h =
    let ne : t.0 ≢ m = omega (arith, h.0) in
    count-cons (writes_at m) t ts ∙ ap (λ b. cond (not t.1 && b) 1 0 + count_by (writes_at m) ts) (tested_other t.0 m ne)
    ∙ uncounted t.1 (count_by (writes_at m) ts) (none_below n m ts lt h.1)

-- counts that differ at one number alone, where neither is above one
at_or_off : (f g : ℕ → ℕ) (n0 n : ℕ) → (n ≢ n0 → f n ≡ g n) → g n0 ≤ 1 → f n ≤ 1 → g n ≤ 1
at_or_off f g n0 n e b h =
    elim (cases_Bool (n == n0)) [
      | inl same ↦ subst (λ k. g k ≤ 1) (sym (same_number n n0 same)) b
      | inr other ↦ let alike = e (other_number n n0 other) in subst (λ k. k ≤ 1) alike h
    ]

above_one : (f g : ℕ → ℕ) (n0 n : ℕ) → (n ≢ n0 → f n ≡ g n) → f n0 ≤ 1 → 1 < f n → 1 < g n
above_one f g n0 n e a h =
    elim (cases_Bool (n == n0)) [
      | inl same ↦ let low : f n ≤ 1 = subst (λ k. f k ≤ 1) (sym (same_number n n0 same)) a in absurd (omega arith)
      | inr other ↦ let alike = e (other_number n n0 other) in subst (λ k. 1 < k) alike h
    ]

widened : (f g : ℕ → ℕ) (n0 : ℕ) (r : Option ℕ) → ((n : ℕ) → n ≢ n0 → f n ≡ g n) → f n0 ≤ 1 → g n0 ≤ 1 → IsLeastDouble f r
    → IsLeastDouble g r
widened f g n0 None e a b h = λ n. at_or_off f g n0 n (e n) b (h n)
widened f g n0 (Some n) e a b h = (above_one f g n0 n (e n) a h.0, λ m lt. at_or_off f g n0 m (e m) b (h.1 m lt))

two : (a b : Bool) (n : ℕ) → a ≡ true → b ≡ true → 1 < cond a 1 0 + (cond b 1 0 + n)
two true true n h g = omega arith
two true false n h g = absurd (false≢true g)
two false b n h g = absurd (false≢true h)

at_most_one : (a b : Bool) (n : ℕ) → b ≡ false → n ≡ 0 → cond a 1 0 + (cond b 1 0 + n) ≤ 1
at_most_one a true n h g = absurd (false≢true (sym h))
at_most_one true false n h g = omega arith
at_most_one false false n h g = omega arith

one_at_most : (b : Bool) (n : ℕ) → n ≡ 0 → cond b 1 0 + n ≤ 1
one_at_most true n h = omega arith
one_at_most false n h = omega arith

not_there : (a : Bool) (n : ℕ) → a ≡ false → n ≡ cond a 1 0 + n
not_there true n h = absurd (false≢true (sym h))
not_there false n h = omega arith

abbrev NotBelow : Option ℕ → ℕ → Type 0
NotBelow None k = Unit {0}
NotBelow (Some w) k = w ≤ k

first_behind : (last : Option ℕ) (t : Rank) (ts : List Rank) → AllBehind last (t ∷ ts) → NotBelow last t.0
first_behind None t ts h = tt
first_behind (Some w) t ts h = h.0

-- the counts after a writer, with those of a writer before it
abbrev both : Option ℕ → ℕ → List Rank → ℕ → ℕ
both last k ts n = cond (number_is last n) 1 0 + (cond (k == n) 1 0 + count_by (writes_at n) ts)

twice : (w k : ℕ) (ts : List Rank) → (w == k) ≡ true → AllFrom k ts → IsLeastDouble (both (Some w) k ts) (Some k)
twice w k ts same from = (
  two (w == k) (k == k) (count_by (writes_at k) ts) same (tested_same k),
  λ m lt. let ne : k ≢ m = omega arith in at_most_one (w == m) (k == m) (count_by (writes_at m) ts) (tested_other k m ne)
      (none_below k m ts lt from),
)

behind_writer : (last : Option ℕ) (k : ℕ) (ts : List Rank) → NotBelow last k → AllFrom k ts
    → IsLeastDouble (counted (Some k) ts) (double_behind (Some k) ts)
    → IsLeastDouble (both last k ts) (cond (number_is last k) (Some k) (double_behind (Some k) ts))
behind_writer None k ts h from rest = least_alike (counted (Some k) ts) (both None k ts) (double_behind (Some k) ts) (λ n. omega arith) rest
behind_writer (Some w) k ts h from rest =
    elim (cases_Bool (w == k)) [
      | inl same ↦ subst (IsLeastDouble (both (Some w) k ts)) (sym (cond-true (w == k) _ _ same)) (twice w k ts same from)
      | inr other ↦
          let ne : w ≢ k = other_number w k other in
          let lt : w < k = omega arith in
          let none = none_below k w ts lt from in
          let back : k ≢ w = omega arith in
          subst (IsLeastDouble (both (Some w) k ts)) (sym (cond-false (w == k) _ _ other))
          (widened (counted (Some k) ts) (both (Some w) k ts) w (double_behind (Some k) ts)
          (λ n off. let far : w ≢ n = omega arith in not_there (w == n) (counted (Some k) ts n) (tested_other w n far))
          (one_at_most (k == w) (count_by (writes_at w) ts) none)
          (at_most_one (w == w) (k == w) (count_by (writes_at w) ts) (tested_other k w back) none) rest)
    ]

scanned : (last : Option ℕ) (ts : List Rank) → AllBehind last ts → Rise ts → IsLeastDouble (counted last ts) (double_behind last ts)
scanned last [] h up = λ n. one_at_most (number_is last n) 0 refl
scanned last (t ∷ ts) h up =
    least_alike (λ n. cond (number_is last n) 1 0 + (cond (not t.1 && (t.0 == n)) 1 0 + count_by (writes_at n) ts)) (counted last (t ∷ ts))
    (double_behind last (t ∷ ts))
    (λ n. ap (λ k. cond (number_is last n) 1 0 + k) (sym (count-cons (writes_at n) t ts)))
    (elim t.1 as (λ b. IsLeastDouble (λ n. cond (number_is last n) 1 0 + (cond (not b && (t.0 == n)) 1 0 + count_by (writes_at n) ts))
    (cond b (double_behind last ts) (cond (number_is last t.0) (Some t.0) (double_behind (Some t.0) ts)))) [
      | true ↦ least_alike (counted last ts) (λ n. cond (number_is last n) 1 0 + (0 + count_by (writes_at n) ts)) (double_behind last ts)
          (λ n. omega arith) (scanned last ts (all_behind last t ts h) up.1)
      | false ↦ behind_writer last t.0 ts (first_behind last t ts h) up.0 (scanned (Some t.0) ts up.0 up.1)
    ])

pub least_double : (ts : List Rank) → AreRanked ts → IsLeastDouble (λ n. count_by (writes_at n) ts) (double_behind None ts)
least_double ts h = least_alike (counted None ts) (λ n. count_by (writes_at n) ts) (double_behind None ts) (λ n. omega arith)
    (scanned None ts tt (rise ts h))
