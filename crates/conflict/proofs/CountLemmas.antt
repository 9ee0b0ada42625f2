-- How many keys are on each stripe. A new key is one more on its own stripe, so counting the entries one after another counts the keys; and
-- as each key is on one stripe, the counts add up to the number of all keys.
use Rattle.std.proofs.Common.{◌≡◌, ◌≢◌, ℕ, zero, suc, ◌+◌, ◌<◌, ◌≤◌, ◌==◌, Bool, true, false, cond, List, [], ◌∷◌, length, get_or, set}
use Rattle.std.proofs.Common.{replicate, Option, Some, None, is_some, eqb-true, nat_lt, refl, sym, ap, subst, ◌∙◌, arith}
use Rattle.std.specs.Cmp.{nat_cmp_total}
use Rattle.std.specs.Ordering.{nat_cmp, eq_by_cmp}
use Rattle.std.specs.List.{range_with_len, sum, sum_by}
use Rattle.std.specs.FinMap.{FinMap, empty, entries, entries_sorted, get, get-empty, get-entries, get-from_entries, get-insert}
use Rattle.std.specs.FinMap.{get-retain_keys, from_entries, insert, len, len-empty, len-entries, len-insert, retain_keys, same_map}
use Rattle.std.specs.FinMap.{nat_cmp-IsAntisymmetric}
use Rattle.std.proofs.lemmas.Bool.Decides.{nat_tests}
use Rattle.std.proofs.lemmas.Grind.{get_or-set_at, same_number_lists}
use Rattle.std.proofs.lemmas.List.{get_or-replicate, get_or-set_other, get_or_past, length-replicate, length-set}
use Rattle.std.proofs.lemmas.List.FromFn.{get_or-map-range_with_len, length-map-range_with_len}
use Rattle.std.proofs.lemmas.List.Sums.{sum-map, sum_by-cons}
use Rattle.seq_model.proofs.EntryLemmas.{AreFresh, fresh_rising}
use Rattle.seq_model.proofs.LogicLemmas.{nat_lt-true, nat_lt-false}
use Rattle.conflict.specs.Counts.{keys_on, stripe_counts}
use Rattle.conflict.specs.Footprints.{key_location}
use Rattle.conflict.specs.Places.{mod_below, same_key}

differ : (p l : ℕ) → (p == l) ≡ false → l ≢ p
differ p l other = grind (arith, nat_tests)

-- ---- one more at one place
adds_none : (f : ℕ → ℕ) (p a n : ℕ) → p < a → sum_by (λ l. cond (p == l) (suc (f l)) (f l))
    (range_with_len a n) ≡ sum_by f (range_with_len a n)
adds_none f p a zero lt = refl
adds_none f p a (suc n) lt =
    sum_by-cons (λ l. cond (p == l) (suc (f l)) (f l)) a (range_with_len (a + 1) n)
    ∙ (λ i. same (p == a) refl i + adds_none f p (a + 1) n (omega arith) i)
    ∙ sym (sum_by-cons f a (range_with_len (a + 1) n))
  where
    same : (b : Bool) → (p == a) ≡ b → cond b (suc (f a)) (f a) ≡ f a
    same true is = let e : p ≡ a = eqb-true p a is in absurd (omega arith)
    same false other = refl

adds_one : (f : ℕ → ℕ) (p a n : ℕ) → a ≤ p → p < a + n
    → sum_by (λ l. cond (p == l) (suc (f l)) (f l)) (range_with_len a n) ≡ suc (sum_by f (range_with_len a n))
adds_one f p a zero le lt = absurd (omega arith)
adds_one f p a (suc n) le lt =
    sum_by-cons (λ l. cond (p == l) (suc (f l)) (f l)) a (range_with_len (a + 1) n)
    ∙ at (p == a) refl (λ above. adds_one f p (a + 1) n above (omega arith))
    ∙ sym (ap suc (sum_by-cons f a (range_with_len (a + 1) n)))
  where
    rest : ℕ
    rest = sum_by f (range_with_len (a + 1) n)

    more : ℕ
    more = sum_by (λ l. cond (p == l) (suc (f l)) (f l)) (range_with_len (a + 1) n)

    at : (b : Bool) → (p == a) ≡ b → (a + 1 ≤ p → more ≡ suc rest) → cond b (suc (f a)) (f a) + more ≡ suc (f a + rest)
    at true is others =
        let e : p ≡ a = eqb-true p a is in
        let none : more ≡ rest = adds_none f p (a + 1) n (omega arith) in
        omega arith
    at false other others =
        let e : a ≢ p = differ p a other in
        let one = others (omega arith) in
        omega arith

no_more : (xs : List ℕ) → sum_by (λ l. 0) xs ≡ 0
no_more [] = refl
no_more (x ∷ xs) = sum_by-cons (λ l. 0) x xs ∙ ap (λ n. 0 + n) (no_more xs)

-- ---- the keys that pass a test
module _ {A : Type 0} (p : ℕ → Bool) where
  -- how many entries have such a key
  abbrev pub found : List (ℕ × A) → ℕ
  found [] = 0
  found (e ∷ es) = cond (p e.0) (suc (found es)) (found es)

  kept_get : (m : FinMap nat_cmp A) (q : ℕ) → get (retain_keys m p) q ≡ cond (p q) (get m q) None
  kept_get m q = get-retain_keys m p q (λ x e. ap p (sym (nat_cmp-IsAntisymmetric q x e)))

  none : (b : Bool) → ◌≡◌ {A = Option A} (cond b None None) None
  none true = refl
  none false = refl

  kept_empty : retain_keys (empty {X = A} {R = nat_cmp}) p ≡ empty
  kept_empty = same_map nat_cmp_total nat_cmp-IsAntisymmetric _ _ (λ q.
      kept_get empty q ∙ ap (λ o. cond (p q) o None) (get-empty {X = A} nat_cmp q) ∙ none (p q) ∙ sym (get-empty {X = A} nat_cmp q))

  -- a key that passes is kept, and one that does not is not
  kept_one : (m : FinMap nat_cmp A) (k : ℕ) (v : A) → p k ≡ true → retain_keys (insert m k v) p ≡ insert (retain_keys m p) k v
  kept_one m k v passes = same_map nat_cmp_total nat_cmp-IsAntisymmetric _ _ (λ q.
      kept_get (insert m k v) q ∙ ap (λ o. cond (p q) o None) (get-insert nat_cmp_total m k v q)
      ∙ at q (eq_by_cmp nat_cmp q k) refl
      ∙ sym (get-insert nat_cmp_total (retain_keys m p) k v q ∙ ap (λ o. cond (eq_by_cmp nat_cmp q k) (Some v) o) (kept_get m q)))
    where
      at : (q : ℕ) (b : Bool) → eq_by_cmp nat_cmp q k ≡ b
          → cond (p q) (cond b (Some v) (get m q)) None ≡ cond b (Some v) (cond (p q) (get m q) None)
      at q true e = ap (λ c. cond c (Some v) None) (ap p (same_key q k e) ∙ passes)
      at q false e = refl

  kept_none : (m : FinMap nat_cmp A) (k : ℕ) (v : A) → p k ≡ false → retain_keys (insert m k v) p ≡ retain_keys m p
  kept_none m k v fails = same_map nat_cmp_total nat_cmp-IsAntisymmetric _ _ (λ q.
      kept_get (insert m k v) q ∙ ap (λ o. cond (p q) o None) (get-insert nat_cmp_total m k v q)
      ∙ at q (eq_by_cmp nat_cmp q k) refl ∙ sym (kept_get m q))
    where
      at : (q : ℕ) (b : Bool) → eq_by_cmp nat_cmp q k ≡ b → cond (p q) (cond b (Some v) (get m q)) None ≡ cond (p q) (get m q) None
      at q true e =
          let gone : p q ≡ false = ap p (same_key q k e) ∙ fails in
          ap (λ c. cond c (Some v) None) gone ∙ sym (ap (λ c. cond c (get m q) None) gone)
      at q false e = refl

  -- so many keys are kept as entries have one
  pub kept_len : (es : List (ℕ × A)) → AreFresh es → len (retain_keys (from_entries {R = nat_cmp} es) p) ≡ found es
  kept_len [] h = ap len kept_empty ∙ len-empty nat_cmp A
  kept_len (e ∷ es) h = at (p e.0) refl (kept_len es h.1)
    where
      m : FinMap nat_cmp A
      m = from_entries es

      new : get (retain_keys m p) e.0 ≡ None
      new = kept_get m e.0 ∙ ap (λ o. cond (p e.0) o None) (get-from_entries nat_cmp_total es e.0 ∙ h.0) ∙ none (p e.0)

      at : (b : Bool) → p e.0 ≡ b → len (retain_keys m p) ≡ found es
          → len (retain_keys (insert m e.0 e.1) p) ≡ cond b (suc (found es)) (found es)
      at true passes rest =
          ap len (kept_one m e.0 e.1 passes) ∙ len-insert nat_cmp_total (retain_keys m p) e.0 e.1
          ∙ ap (λ o. cond (is_some o) (len (retain_keys m p)) (len (retain_keys m p) + 1)) new
          ∙ omega arith
      at false fails rest = ap len (kept_none m e.0 e.1 fails) ∙ rest

-- ---- by stripe
pub no_counts : (n p : ℕ) → ◌≡◌ {A = ℕ} (get_or (replicate n 0) p 0) 0
no_counts n p = at (nat_lt p n) refl
  where
    at : (b : Bool) → nat_lt p n ≡ b → ◌≡◌ {A = ℕ} (get_or (replicate n 0) p 0) 0
    at true lt = get_or-replicate n p 0 0 (nat_lt-true p n lt)
    at false ge =
        let len : length (replicate {A = ℕ} n 0) ≡ n = length-replicate n 0 in
        let le : n ≤ p = nat_lt-false p n ge in
        get_or_past (replicate n 0) p 0 (omega arith)

module _ {A : Type 0} (n : ℕ) where
  -- the counts, with these entries counted too
  abbrev pub counted : List (ℕ × A) → List ℕ → List ℕ
  counted [] cs = cs
  counted (e ∷ es) cs = counted es (set cs (key_location n e.0) (get_or cs (key_location n e.0) 0 + 1))

  counted_len : (es : List (ℕ × A)) (cs : List ℕ) → length (counted es cs) ≡ length cs
  counted_len [] cs = refl
  counted_len (e ∷ es) cs =
      counted_len es (set cs (key_location n e.0) (get_or cs (key_location n e.0) 0 + 1)) ∙ length-set cs (key_location n e.0)
      (get_or cs (key_location n e.0) 0 + 1)

  counted_at : (es : List (ℕ × A)) (cs : List ℕ) (l : ℕ) → l < length cs
      → get_or (counted es cs) l 0 ≡ get_or cs l 0 + found {A = A} (λ k. key_location n k == l) es
  counted_at [] cs l lt = omega arith
  counted_at (e ∷ es) cs l lt =
      counted_at es (set cs p more) l (subst (λ m. l < m) (sym (length-set cs p more)) lt) ∙ at (p == l) refl
    where
      p : ℕ
      p = key_location n e.0

      more : ℕ
      more = get_or cs p 0 + 1

      rest : ℕ
      rest = found {A = A} (λ k. key_location n k == l) es

      at : (b : Bool) → (p == l) ≡ b → get_or (set cs p more) l 0 + rest ≡ get_or cs l 0 + cond b (suc rest) rest
      at true is =
          let same : p ≡ l = eqb-true p l is in
          let here = get_or-set_at cs p l more 0 (sym same) (subst (λ x. x < length cs) (sym same) lt) in
          let there : get_or cs p 0 ≡ get_or cs l 0 = ap (λ x. get_or cs x 0) same in
          omega arith
      at false other = ap (λ x. x + rest) (get_or-set_other cs p l more 0 (differ p l other))

  -- all entries counted are the keys on each stripe
  pub counted_all : (es : List (ℕ × A)) → AreFresh es → counted es (replicate n 0) ≡ stripe_counts n (from_entries {R = nat_cmp} es)
  counted_all es fresh =
      let len : length (counted es (replicate n 0)) ≡ length (replicate {A = ℕ} n 0) = counted_len es (replicate n 0) in
      let zeros : length (replicate {A = ℕ} n 0) ≡ n = length-replicate n 0 in
      same_number_lists _ _ (len ∙ zeros ∙ sym (length-map-range_with_len (keys_on n (from_entries es)) 0 n)) (λ l lt.
      let under : l < n = omega (arith, len, zeros, lt) in
      let from_zero : 0 + l ≡ l = omega arith in
      let there : ℕ = found {A = A} (λ k. key_location n k == l) es in
      let no_more_than : 0 + there ≡ there = omega arith in
      counted_at es (replicate n 0) l (omega arith)
      ∙ ap (λ x. x + there) (get_or-replicate n l 0 0 under)
      ∙ no_more_than
      ∙ sym (get_or-map-range_with_len (keys_on n (from_entries es)) 0 n l l 0 under from_zero
      ∙ kept_len (λ k. key_location n k == l) es fresh))

  -- each entry is on one stripe
  found_all : 0 < n → (es : List (ℕ × A)) → sum_by (λ l. found {A = A} (λ k. key_location n k == l) es) (range_with_len 0 n) ≡ length es
  found_all pos [] = no_more (range_with_len 0 n)
  found_all pos (e ∷ es) =
      let inside = mod_below e.0 n pos in
      adds_one (λ l. found {A = A} (λ k. key_location n k == l) es) (key_location n e.0) 0 n (omega arith) (omega arith)
      ∙ ap suc (found_all pos es)

  -- so the counts add up to the number of all keys
  pub counts_all : 0 < n → (m : FinMap nat_cmp A) → sum (stripe_counts n m) ≡ len m
  counts_all pos m =
      let fresh = fresh_rising (entries m) (entries_sorted m) in
      let same : from_entries (entries m) ≡ m =
      same_map nat_cmp_total nat_cmp-IsAntisymmetric _ _ (λ q. get-from_entries nat_cmp_total (entries m) q ∙ sym (get-entries m q)) in
      let each : (l : ℕ) → keys_on n m l ≡ found {A = A} (λ k. key_location n k == l) (entries m) =
      λ l. ap (λ x. keys_on n x l) (sym same) ∙ kept_len (λ k. key_location n k == l) (entries m) fresh in
      sum-map (keys_on n m) (range_with_len 0 n) ∙ (λ i. sum_by (λ l. each l i) (range_with_len 0 n)) ∙ found_all pos (entries m)
      ∙ sym (len-entries m)
