-- A call at one key, on a map or a multiset over several gates: the collection that has the key answers as the whole one would.
use Rattle.std.proofs.Common.{◌≡◌, ◌⊎◌, ℕ, zero, suc, ◌+◌, ◌-◌, ◌%◌, ◌<◌, ◌≤◌, ◌==◌, Bool}
use Rattle.std.proofs.Common.{true, false, cond, List, [], ◌∷◌, Option, Some, None, inl, inr}
use Rattle.std.proofs.Common.{refl, sym, ap, subst, ◌∙◌, arith, eqb-true, unwrap_or, nat_lt}
use Rattle.std.specs.Prelude.{Err, IfOk, Ok, Result, option_map, option_and_then, slice_get, slice_set, if◌then◌else◌}
use Rattle.std.specs.Cmp.{nat_cmp_total}
use Rattle.std.specs.Ordering.{nat_cmp, eq_by_cmp}
use Rattle.std.specs.FinMap.{FinMap, get, get-insert, get-remove, get-retain_keys, insert, nat_cmp-IsAntisymmetric, remove, retain_keys}
use Rattle.std.specs.FinMap.{same_map}
use Rattle.std.proofs.lemmas.Bool.Decides.{nat_tests}
use Rattle.seq_model.specs.declared.call.Call.{Call}
use Rattle.seq_model.specs.declared.call.Op.{Op}
use Rattle.seq_model.specs.declared.call.Op.TheVariants as ops
use Rattle.seq_model.specs.declared.call.Reply.{Reply}
use Rattle.seq_model.specs.declared.call.Reply.TheVariants as replies
use Rattle.seq_model.specs.declared.held.Held.{Held}
use Rattle.seq_model.specs.declared.held.Held.TheVariants as held
use Rattle.seq_model.specs.declared.limits.TheConstants.{COPY_LIMIT}
use Rattle.seq_model.specs.Calls.{add_call, held_call, take_call, value_reply}
use Rattle.seq_model.specs.Contents.{Contents, call_of, collection_call, op_call}
use Rattle.seq_model.specs.Counts.{Multiset, copies, with_copies}
use Rattle.seq_model.specs.Runs.{after_call, reply_of}
use Rattle.seq_model.proofs.RunLemmas.{answered}
use Rattle.tx_handles.specs.declared.bags.Bag.{Bag}
use Rattle.tx_handles.specs.declared.gates.Gates.{Gates}
use Rattle.tx_handles.specs.declared.maps.Map.{Map}
use Rattle.tx_handles.specs.HandleCalls.{AreOneCall, BagAnswers, HasMadeAt, IsCallOn, MapAnswers}
use Rattle.conflict.specs.Places.{mod_below}
use Rattle.tx_handles.specs.Gates.{AreSameBeside, LieOver, hash_of, place_of}
use Rattle.tx_handles.specs.MadeCall.{HasMade, TransactionShown}

-- ---- places
mod_within : (x n : ℕ) → x % (n + 1) ≤ n
mod_within x n = let h = mod_below x (n + 1) (omega arith) in omega (arith, h)

pub place_within : (g : Gates) (k : ℕ) → place_of g k ≤ g.others
unfolding place_of
place_within g k = elim (g.others == 0) as (λ b. cond b 0 (hash_of g.seed k % (g.others + 1)) ≤ g.others)
    [ true ↦ omega arith | false ↦ mod_within _ g.others ]

pub place_of_one : (g : Gates) (k : ℕ) → g.others ≡ 0 → place_of g k ≡ 0
place_of_one g k one = let h = place_within g k in omega (arith, h, one)

pub equal : (n : ℕ) → (n == n) ≡ true
equal n = grind (arith, nat_tests)

pub unequal : (n m : ℕ) → (n == m) ≡ false → m ≡ n → ⊥
unequal n m h e = grind (arith, nat_tests)

-- ---- a list with one entry changed
pub set_here : {A : Type 0} → (xs : List A) (i : ℕ) (x y : A) → slice_get xs i ≡ Some x → slice_get (slice_set xs i y) i ≡ Some y
set_here [] i x y h = absurd (let z : None ≡ Some x = h in cc)
set_here (z ∷ zs) zero x y h = refl
set_here (z ∷ zs) (suc i) x y h = set_here zs i x y h

pub set_there : {A : Type 0} → (xs : List A) (i j : ℕ) (y : A) → (j ≡ i → ⊥) → slice_get (slice_set xs i y) j ≡ slice_get xs j
set_there [] i j y ne = refl
set_there (z ∷ zs) zero zero y ne = absurd (ne refl)
set_there (z ∷ zs) zero (suc j) y ne = refl
set_there (z ∷ zs) (suc i) zero y ne = refl
set_there (z ∷ zs) (suc i) (suc j) y ne = set_there zs i j y (λ e. ne (ap suc e))

-- ---- the keys that pass a test
same_key : (q k : ℕ) → eq_by_cmp nat_cmp q k ≡ true → q ≡ k
same_key q k h = grind (arith, nat_tests)

module _ {X : Type 0} (p : ℕ → Bool) where
  pub kept_get : (m : FinMap nat_cmp X) (q : ℕ) → get (retain_keys m p) q ≡ cond (p q) (get m q) None
  kept_get m q = get-retain_keys m p q (λ x e. ap p (sym (nat_cmp-IsAntisymmetric q x e)))

  pub kept_at : (m : FinMap nat_cmp X) (k : ℕ) → p k ≡ true → get (retain_keys m p) k ≡ get m k
  kept_at m k passes = kept_get m k ∙ ap (λ b. cond b (get m k) None) passes

  -- what differs at one key that passes, does so in what is kept
  kept_change : (m n r : FinMap nat_cmp X) (k : ℕ) (o : Option X) → p k ≡ true
      → ((q : ℕ) → get n q ≡ cond (eq_by_cmp nat_cmp q k) o (get m q))
      → ((q : ℕ) → get r q ≡ cond (eq_by_cmp nat_cmp q k) o (get (retain_keys m p) q)) → r ≡ retain_keys n p
  kept_change m n r k o passes of_n of_r = same_map nat_cmp_total nat_cmp-IsAntisymmetric _ _ (λ q.
      of_r q ∙ ap (cond (eq_by_cmp nat_cmp q k) o) (kept_get m q) ∙ at q (eq_by_cmp nat_cmp q k) refl
      ∙ sym (kept_get n q ∙ ap (λ x. cond (p q) x None) (of_n q)))
    where
      at : (q : ℕ) (b : Bool) → eq_by_cmp nat_cmp q k ≡ b
          → cond b o (cond (p q) (get m q) None) ≡ cond (p q) (cond b o (get m q)) None
      at q true e = sym (ap (λ c. cond c o None) (ap p (same_key q k e) ∙ passes))
      at q false e = refl

  -- what differs at one key that doesn't pass leaves what is kept
  left_change : (m n : FinMap nat_cmp X) (k : ℕ) (o : Option X) → p k ≡ false
      → ((q : ℕ) → get n q ≡ cond (eq_by_cmp nat_cmp q k) o (get m q)) → retain_keys n p ≡ retain_keys m p
  left_change m n k o fails of_n = same_map nat_cmp_total nat_cmp-IsAntisymmetric _ _ (λ q.
      kept_get n q ∙ ap (λ x. cond (p q) x None) (of_n q) ∙ at q (eq_by_cmp nat_cmp q k) refl ∙ sym (kept_get m q))
    where
      at : (q : ℕ) (b : Bool) → eq_by_cmp nat_cmp q k ≡ b → cond (p q) (cond b o (get m q)) None ≡ cond (p q) (get m q) None
      at q true e =
          let gone : p q ≡ false = ap p (same_key q k e) ∙ fails in
          ap (λ c. cond c o None) gone ∙ sym (ap (λ c. cond c (get m q) None) gone)
      at q false e = refl

  pub kept_insert : (m : FinMap nat_cmp X) (k : ℕ) (x : X) → p k ≡ true → insert (retain_keys m p) k x ≡ retain_keys (insert m k x) p
  kept_insert m k x passes =
      kept_change m (insert m k x) _ k (Some x) passes (get-insert nat_cmp_total m k x) (get-insert nat_cmp_total (retain_keys m p) k x)

  pub left_insert : (m : FinMap nat_cmp X) (k : ℕ) (x : X) → p k ≡ false → retain_keys (insert m k x) p ≡ retain_keys m p
  left_insert m k x fails = left_change m (insert m k x) k (Some x) fails (get-insert nat_cmp_total m k x)

  pub kept_remove : (m : FinMap nat_cmp X) (k : ℕ) → p k ≡ true → remove (retain_keys m p) k ≡ retain_keys (remove m k) p
  kept_remove m k passes =
      kept_change m (remove m k) _ k None passes (get-remove nat_cmp_total m k) (get-remove nat_cmp_total (retain_keys m p) k)

  pub left_remove : (m : FinMap nat_cmp X) (k : ℕ) → p k ≡ false → retain_keys (remove m k) p ≡ retain_keys m p
  left_remove m k fails = left_change m (remove m k) k None fails (get-remove nat_cmp_total m k)

-- ---- calls at one key
module _ {V X : Type 0} (kind : FinMap nat_cmp X → Held V) (op : Op V) (f : FinMap nat_cmp X → Reply V × FinMap nat_cmp X) (k : ℕ) where
  -- Of the collection as a whole it needs, and changes, what is at the key.
  pub record IsAtKey : Type 0 where
    pub calls : (t : ℕ) (s : Contents V) → op_call op t s ≡ collection_call op t s
    pub answers : (m : FinMap nat_cmp X) → held_call op (kind m) ≡ Some ((f m).0, kind (f m).1)
    pub reply : (m : FinMap nat_cmp X) (p : ℕ → Bool) → p k ≡ true → (f (retain_keys m p)).0 ≡ (f m).0
    pub inside : (m : FinMap nat_cmp X) (p : ℕ → Bool) → p k ≡ true → (f (retain_keys m p)).1 ≡ retain_keys (f m).1 p
    pub outside : (m : FinMap nat_cmp X) (p : ℕ → Bool) → p k ≡ false → retain_keys (f m).1 p ≡ retain_keys m p

  module _ (at : IsAtKey) (g : Gates) where
    abbrev where_it_is : ℕ
    where_it_is = g.first + place_of g k

    abbrev the_call : Call V
    the_call = record { target = where_it_is; op = op }

    abbrev part_of : FinMap nat_cmp X → FinMap nat_cmp X
    part_of u = retain_keys u (λ q. place_of g q == place_of g k)

    module _ (s : Contents V) (u : FinMap nat_cmp X) (lie : LieOver kind g u s.held) where
      abbrev after_it : Contents V
      after_it = record s { held = slice_set s.held where_it_is (kind (f (part_of u)).1) }

      here : slice_get s.held where_it_is ≡ Some (kind (part_of u))
      here = lie (place_of g k) (place_within g k)

      call_here : call_of the_call s ≡ Some ((f (part_of u)).0, after_it)
      call_here =
          at.calls where_it_is s
          ∙ ap (option_and_then (λ h. option_map (λ (r : Reply V × Held V). (r.0, record s { held = slice_set s.held where_it_is r.1 }))
          (held_call op h))) here
          ∙ ap (option_map (λ (r : Reply V × Held V). (r.0, record s { held = slice_set s.held where_it_is r.1 }))) (at.answers (part_of u))

      lie_at : (i : ℕ) (b : Bool) → i ≤ g.others → (place_of g k == i) ≡ b
          → slice_get after_it.held (g.first + i) ≡ Some (kind (retain_keys (f u).1 (λ q. place_of g q == i)))
      lie_at i true le is =
          let same : place_of g k ≡ i = eqb-true (place_of g k) i is in
          subst (λ j. slice_get after_it.held (g.first + j) ≡ Some (kind (retain_keys (f u).1 (λ q. place_of g q == j)))) same
          (set_here s.held where_it_is (kind (part_of u)) (kind (f (part_of u)).1) here
          ∙ ap (λ m. Some (kind m)) (at.inside u (λ q. place_of g q == place_of g k) (equal (place_of g k))))
      lie_at i false le other =
          let apart = unequal (place_of g k) i other in
          set_there s.held where_it_is (g.first + i) (kind (f (part_of u)).1) (λ e. apart (omega (arith, e)))
          ∙ lie i le ∙ sym (ap (λ m. Some (kind m)) (at.outside u (λ q. place_of g q == i) other))

      same_beside : AreSameBeside g s after_it
      same_beside = record {
        words = refl;
        others = λ c beside. set_there s.held where_it_is c (kind (f (part_of u)).1) (not_there c (place_within g k) beside);
      }
        where
          not_there : (c : ℕ) → place_of g k ≤ g.others → (c < g.first) ⊎ (g.first + g.others < c) → c ≡ where_it_is → ⊥
          not_there c le (inl below) e = omega (arith, le, below, e)
          not_there c le (inr above) e = omega (arith, le, above, e)

      reply_is : (r : Reply V) → reply_of the_call s ≡ Some r → (f u).0 ≡ r
      reply_is r has =
          let told : Some (f (part_of u)).0 ≡ Some r = sym (answered the_call s after_it (f (part_of u)).0 call_here).0 ∙ has in
          let same : (f (part_of u)).0 ≡ r = cc in
          sym (at.reply u (λ q. place_of g q == place_of g k) (equal (place_of g k))) ∙ same

      is_call : (r : Reply V) → reply_of the_call s ≡ Some r → IsCallOn kind (λ m. Some (f m)) g u r s (after_call the_call s)
      is_call r has = subst (IsCallOn kind (λ m. Some (f m)) g u r s)
          (sym (answered the_call s after_it (f (part_of u)).0 call_here).1)
          (record {
            after = (f u).1;
            answers = ap (λ x. Some (x, (f u).1)) (reply_is r has);
            lie = λ i le. lie_at i (place_of g k == i) le refl;
            same = same_beside;
          })

    -- such a call, made where the key is, is one of the whole collection
    pub one_call : (r : Reply V) → AreOneCall kind (λ m. Some (f m)) g r ((the_call, r) ∷ [])
    one_call r s u lie legal = is_call s u lie r legal.0

    pub made_one : (before now : TransactionShown V) (store : ℕ) (r : Reply V) → HasMade before store where_it_is op r now
        → HasMadeAt kind (λ m. Some (f m)) g k op r before store now
    made_one before now store r has = record { made = has; means = one_call r }

-- ---- those of a map
module _ {V : Type 0} (k : ℕ) where
  at_get : IsAtKey {V = V} held.Map (ops.Get k) (λ m. (value_reply (get m k), m)) k
  at_get = record {
    calls = λ t s. refl;
    answers = λ m. refl;
    reply = λ m p passes. ap value_reply (kept_at p m k passes);
    inside = λ m p passes. refl;
    outside = λ m p fails. refl;
  }

  at_put : (v : V) → IsAtKey held.Map (ops.Put k v) (λ m. (value_reply (get m k), insert m k v)) k
  at_put v = record {
    calls = λ t s. refl;
    answers = λ m. refl;
    reply = λ m p passes. ap value_reply (kept_at p m k passes);
    inside = λ m p passes. kept_insert p m k v passes;
    outside = λ m p fails. left_insert p m k v fails;
  }

  at_remove : IsAtKey {V = V} held.Map (ops.Remove k) (λ m. (value_reply (get m k), remove m k)) k
  at_remove = record {
    calls = λ t s. refl;
    answers = λ m. refl;
    reply = λ m p passes. ap value_reply (kept_at p m k passes);
    inside = λ m p passes. kept_remove p m k passes;
    outside = λ m p fails. left_remove p m k fails;
  }

  module _ (before now : TransactionShown V) (m : Map V) (r x : Reply V) (is : r ≡ x) where
    pub map_gets : HasMade before m.store (m.gates.first + place_of m.gates k) (ops.Get k) r now
        → MapAnswers before m k (ops.Get k) x now
    map_gets has = subst (λ (y : Reply V). MapAnswers before m k (ops.Get k) y now) is
        (made_one held.Map (ops.Get k) (λ u. (value_reply (get u k), u)) k at_get m.gates before now m.store r has)

    pub map_puts : (v : V) → HasMade before m.store (m.gates.first + place_of m.gates k) (ops.Put k v) r now
        → MapAnswers before m k (ops.Put k v) x now
    map_puts v has = subst (λ (y : Reply V). MapAnswers before m k (ops.Put k v) y now) is
        (made_one held.Map (ops.Put k v) (λ u. (value_reply (get u k), insert u k v)) k (at_put v) m.gates before now m.store r has)

    pub map_removes : HasMade before m.store (m.gates.first + place_of m.gates k) (ops.Remove k) r now
        → MapAnswers before m k (ops.Remove k) x now
    map_removes has = subst (λ (y : Reply V). MapAnswers before m k (ops.Remove k) y now) is
        (made_one held.Map (ops.Remove k) (λ u. (value_reply (get u k), remove u k)) k at_remove m.gates before now m.store r has)

-- ---- those of a multiset
kept_copies : (p : ℕ → Bool) (m : Multiset) (k : ℕ) → p k ≡ true → copies (retain_keys m p) k ≡ copies m k
kept_copies p m k passes = ap (λ o. unwrap_or o 0) (kept_at p m k passes)

kept_with : (p : ℕ → Bool) (m : Multiset) (k n : ℕ) → p k ≡ true → with_copies (retain_keys m p) k n ≡ retain_keys (with_copies m k n) p
kept_with p m k n passes =
    elim (n == 0) as (λ b. cond b (remove (retain_keys m p) k) (insert (retain_keys m p) k n) ≡ retain_keys
    (cond b (remove m k) (insert m k n)) p)
    [ true ↦ kept_remove p m k passes | false ↦ kept_insert p m k n passes ]

left_with : (p : ℕ → Bool) (m : Multiset) (k n : ℕ) → p k ≡ false → retain_keys (with_copies m k n) p ≡ retain_keys m p
left_with p m k n fails =
    elim (n == 0) as (λ b. retain_keys (cond b (remove m k) (insert m k n)) p ≡ retain_keys m p)
    [ true ↦ left_remove p m k fails | false ↦ left_insert p m k n fails ]

-- a change of the copies of one element
module _ (k : ℕ) where
  pub record IsAtElement (change : Multiset → ℕ → Multiset) : Type 0 where
    pub inside : (m : Multiset) (p : ℕ → Bool) (n : ℕ) → p k ≡ true → change (retain_keys m p) n ≡ retain_keys (change m n) p
    pub outside : (m : Multiset) (p : ℕ → Bool) (n : ℕ) → p k ≡ false → retain_keys (change m n) p ≡ retain_keys m p

  no_change : IsAtElement (λ m n. m)
  no_change = record { inside = λ m p n passes. refl; outside = λ m p n fails. refl }

  one_more : IsAtElement (λ m n. with_copies m k (n + 1))
  one_more = record {
    inside = λ m p n passes. kept_with p m k (n + 1) passes;
    outside = λ m p n fails. left_with p m k (n + 1) fails;
  }

  one_fewer : IsAtElement (λ m n. with_copies m k (n - 1))
  one_fewer = record {
    inside = λ m p n passes. kept_with p m k (n - 1) passes;
    outside = λ m p n fails. left_with p m k (n - 1) fails;
  }

-- one of two outcomes, by a test of the number of copies
module _ {V : Type 0} (k : ℕ) (test : ℕ → Bool) (yes no : Reply V) (a b : Multiset → ℕ
    → Multiset) (at_a : IsAtElement k a) (at_b : IsAtElement k b) where
  abbrev by_test : Bool → Multiset → ℕ → Reply V × Multiset
  by_test true m n = (yes, a m n)
  by_test false m n = (no, b m n)

  reply_by : (t : Bool) (m : Multiset) (p : ℕ → Bool) (n : ℕ) → (by_test t (retain_keys m p) n).0 ≡ (by_test t m n).0
  reply_by true m p n = refl
  reply_by false m p n = refl

  inside_by : (t : Bool) (m : Multiset) (p : ℕ → Bool) (n : ℕ) → p k ≡ true
      → (by_test t (retain_keys m p) n).1 ≡ retain_keys (by_test t m n).1 p
  inside_by true m p n passes = at_a.inside m p n passes
  inside_by false m p n passes = at_b.inside m p n passes

  outside_by : (t : Bool) (m : Multiset) (p : ℕ → Bool) (n : ℕ) → p k ≡ false → retain_keys (by_test t m n).1 p ≡ retain_keys m p
  outside_by true m p n fails = at_a.outside m p n fails
  outside_by false m p n fails = at_b.outside m p n fails

  abbrev outcome : Multiset → ℕ → Reply V × Multiset
  outcome m n = by_test (test n) m n

  outcome_reply : (m : Multiset) (p : ℕ → Bool) → p k ≡ true
      → (outcome (retain_keys m p) (copies (retain_keys m p) k)).0 ≡ (outcome m (copies m k)).0
  outcome_reply m p passes =
      ap (λ n. (outcome (retain_keys m p) n).0) (kept_copies p m k passes) ∙ reply_by (test (copies m k)) m p (copies m k)

  outcome_inside : (m : Multiset) (p : ℕ → Bool) → p k ≡ true
      → (outcome (retain_keys m p) (copies (retain_keys m p) k)).1 ≡ retain_keys (outcome m (copies m k)).1 p
  outcome_inside m p passes =
      ap (λ n. (outcome (retain_keys m p) n).1) (kept_copies p m k passes) ∙ inside_by (test (copies m k)) m p (copies m k) passes

  outcome_outside : (m : Multiset) (p : ℕ → Bool) → p k ≡ false → retain_keys (outcome m (copies m k)).1 p ≡ retain_keys m p
  outcome_outside m p fails = outside_by (test (copies m k)) m p (copies m k) fails

module _ {V : Type 0} (k : ℕ) where
  abbrev added : Multiset → Reply V × Multiset
  added m = outcome k (λ n. nat_lt n COPY_LIMIT) replies.Done replies.Full (λ u n. with_copies u k (n + 1)) (λ u n. u) (one_more k)
      (no_change k) m (copies m k)

  abbrev taken : Multiset → Reply V × Multiset
  taken m = outcome k (λ n. n == 0) replies.No replies.Yes (λ u n. u) (λ u n. with_copies u k (n - 1)) (no_change k) (one_fewer k) m
      (copies m k)

  added_is : (m : Multiset) → add_call {V = V} k m ≡ added m
  added_is m = at (nat_lt (copies m k) COPY_LIMIT)
    where
      at : (b : Bool) → ◌≡◌ {A = Reply V × Multiset} (if b then (replies.Done, with_copies m k (copies m k + 1)) else (replies.Full, m))
          (by_test k (λ n. nat_lt n COPY_LIMIT) replies.Done replies.Full (λ u n. with_copies u k (n + 1)) (λ u n. u) (one_more k)
          (no_change k) b m (copies m k))
      at true = refl
      at false = refl

  taken_is : (m : Multiset) → take_call {V = V} k m ≡ taken m
  taken_is m = at (copies m k == 0)
    where
      at : (b : Bool) → ◌≡◌ {A = Reply V × Multiset} (if b then (replies.No, m) else (replies.Yes, with_copies m k (copies m k - 1)))
          (by_test k (λ n. n == 0) replies.No replies.Yes (λ u n. u) (λ u n. with_copies u k (n - 1)) (no_change k) (one_fewer k) b m
          (copies m k))
      at true = refl
      at false = refl

  at_count : IsAtKey {V = V} held.Bag (ops.Count k) (λ m. (replies.Number (copies m k), m)) k
  at_count = record {
    calls = λ t s. refl;
    answers = λ m. refl;
    reply = λ m p passes. ap replies.Number (kept_copies p m k passes);
    inside = λ m p passes. refl;
    outside = λ m p fails. refl;
  }

  at_add : IsAtKey {V = V} held.Bag (ops.Add k) added k
  at_add = record {
    calls = λ t s. refl;
    answers = λ m. ap (λ (r : Reply V × Multiset). Some (r.0, held.Bag r.1)) (added_is m);
    reply = outcome_reply k (λ n. nat_lt n COPY_LIMIT) replies.Done replies.Full (λ u n. with_copies u k (n + 1)) (λ u n. u) (one_more k)
        (no_change k);
    inside = outcome_inside k (λ n. nat_lt n COPY_LIMIT) replies.Done replies.Full (λ u n. with_copies u k (n + 1)) (λ u n. u)
        (one_more k) (no_change k);
    outside = outcome_outside k (λ n. nat_lt n COPY_LIMIT) replies.Done replies.Full (λ u n. with_copies u k (n + 1)) (λ u n. u)
        (one_more k) (no_change k);
  }

  at_take : IsAtKey {V = V} held.Bag (ops.Take k) taken k
  at_take = record {
    calls = λ t s. refl;
    answers = λ m. ap (λ (r : Reply V × Multiset). Some (r.0, held.Bag r.1)) (taken_is m);
    reply = outcome_reply k (λ n. n == 0) replies.No replies.Yes (λ u n. u) (λ u n. with_copies u k (n - 1)) (no_change k) (one_fewer k);
    inside = outcome_inside k (λ n. n == 0) replies.No replies.Yes (λ u n. u) (λ u n. with_copies u k (n - 1)) (no_change k) (one_fewer k);
    outside = outcome_outside k (λ n. n == 0) replies.No replies.Yes (λ u n. u) (λ u n. with_copies u k (n - 1)) (no_change k)
        (one_fewer k);
  }

  module _ (before now : TransactionShown V) (b : Bag) (r x : Reply V) (is : r ≡ x) where
    pub bag_counts : HasMade before b.store (b.gates.first + place_of b.gates k) (ops.Count k) r now
        → BagAnswers before b k (ops.Count k) x now
    bag_counts has = subst (λ (y : Reply V). BagAnswers before b k (ops.Count k) y now) is
        (made_one held.Bag (ops.Count k) (λ m. (replies.Number (copies m k), m)) k at_count b.gates before now b.store r has)

    pub bag_adds : HasMade before b.store (b.gates.first + place_of b.gates k) (ops.Add k) r now → BagAnswers before b k (ops.Add k) x now
    bag_adds has = subst (λ (y : Reply V). BagAnswers before b k (ops.Add k) y now) is
        (subst (λ (call : Multiset → Option (Reply V × Multiset)). HasMadeAt held.Bag call b.gates k (ops.Add k) r before b.store now)
        (λ i m. Some (sym (added_is m) i))
        (made_one held.Bag (ops.Add k) added k at_add b.gates before now b.store r has))

    pub bag_takes : HasMade before b.store (b.gates.first + place_of b.gates k) (ops.Take k) r now
        → BagAnswers before b k (ops.Take k) x now
    bag_takes has = subst (λ (y : Reply V). BagAnswers before b k (ops.Take k) y now) is
        (subst (λ (call : Multiset → Option (Reply V × Multiset)). HasMadeAt held.Bag call b.gates k (ops.Take k) r before b.store now)
        (λ i m. Some (sym (taken_is m) i))
        (made_one held.Bag (ops.Take k) taken k at_take b.gates before now b.store r has))

-- ---- what is held at the end
module _ {V X : Type 0} (kind : FinMap nat_cmp X → Held V) (g : Gates) (hs : List (Held V)) (u part : FinMap nat_cmp X) (k : ℕ) where
  pub part_is : LieOver kind g u hs → ((m n : FinMap nat_cmp X) → kind m ≡ kind n → m ≡ n)
      → slice_get hs (g.first + place_of g k) ≡ Some (kind part) → get part k ≡ get u k
  part_is lie one at =
      let e : Some (kind (retain_keys u (λ q. place_of g q == place_of g k))) ≡ Some (kind part) =
      sym (lie (place_of g k) (place_within g k)) ∙ at in
      let same : kind (retain_keys u (λ q. place_of g q == place_of g k)) ≡ kind part = cc in
      ap (λ m. get m k) (sym (one _ _ same)) ∙ kept_at (λ q. place_of g q == place_of g k) u k (equal (place_of g k))

module _ {V : Type 0} (g : Gates) (hs : List (Held V)) (k : ℕ) where
  pub got_of : (u part : FinMap nat_cmp V) → LieOver held.Map g u hs → slice_get hs (g.first + place_of g k) ≡ Some (held.Map part)
      → get part k ≡ get u k
  got_of u part lie at = part_is held.Map g hs u part k lie (λ m n e. cc) at

  pub copies_of : (u part : Multiset) → LieOver held.Bag g u hs → slice_get hs (g.first + place_of g k) ≡ Some (held.Bag part)
      → copies part k ≡ copies u k
  copies_of u part lie at = ap (λ o. unwrap_or o 0) (part_is held.Bag g hs u part k lie (λ m n e. cc) at)

-- ---- answers
pub on_ok : {A E : Type 0} (P Q : A → Type 0) (r : Result A E) → ((a : A) → P a → Q a) → IfOk r P → IfOk r Q
on_ok P Q (Ok a) f h = f a h
on_ok P Q (Err e) f h = tt
