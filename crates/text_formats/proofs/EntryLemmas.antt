-- Reading the pairs of a collection one after another.
use Rattle.std.proofs.Common.{
  rules,
  IfSome,
  refl,
  sym,
  ap,
  ◌∙◌,
  arith,
  ◌≡◌,
  ◌≢◌,
  ℕ,
  suc,
  zero,
  ◌+◌,
  ◌<◌,
  ◌≤◌,
  append-nil,
  append_assoc,
  length,
  drop,
  Bor,
  Option,
  Some,
  List,
  [],
  ◌∷◌,
  ◌++◌,
  slice_index_or,
}
use Rattle.std.proofs.lemmas.Bool.Decides.{nat_tests}
use Rattle.std.specs.Ordering.{nat_cmp}
use Rattle.std.specs.FinMap.{FinMap, insert}
use Rattle.seq_model.specs.Counts.{with_copies}
use Rattle.text_formats.specs.ScriptTokens.{IsPair}
use Rattle.text_formats.specs.Tokens.{IsNumber, texts}
use Rattle.text_formats.specs.ScriptLines.{AreEntries, AreNumbers, IsAbove}

left_at : (ts : List (Bor (List ℕ))) (i : ℕ) (d : Bor (List ℕ)) → i < length ts
    → texts (drop i ts) ≡ (slice_index_or ts i d).now ∷ texts (drop (suc i) ts)
left_at [] i d lt = absurd (omega (arith, lt))
left_at (t ∷ ts) zero d lt = refl
left_at (t ∷ ts) (suc i) d lt = left_at ts i d (omega (arith, lt))

next : (i : ℕ) → suc i ≡ i + 1
next i = omega arith

-- the tokens that are left, the first of them apart
pub left_is : (ts : List (Bor (List ℕ))) (i : ℕ) (d : Bor (List ℕ)) → i < length ts
    → texts (drop i ts) ≡ (slice_index_or ts i d).now ∷ texts (drop (i + 1) ts)
left_is ts i d lt = left_at ts i d lt ∙ ap (λ k. (slice_index_or ts i d).now ∷ texts (drop k ts)) (next i)

some_same : (p q : ℕ × ℕ) → Some p ≡ Some q → q ≡ p
some_same p q e = search (rules, e)

some_number : (p q : ℕ) → Some p ≡ Some q → q ≡ p
some_number p q e = search (rules, e)

-- one pair more has been read: r is what its token was read as
module _ (IsFit : ℕ × ℕ → Type 0) (ts : List (Bor (List ℕ))) (i : ℕ) (d : Bor (List ℕ)) (last : Option ℕ) (before after : FinMap nat_cmp ℕ)
    (p : ℕ × ℕ) (r : Option (ℕ × ℕ))
    (lt : i < length ts) (some : r ≡ Some p) (is : after ≡ insert before p.0 p.1) where
  pub entries_front : IfSome r (IsPair (slice_index_or ts i d).now) → IsFit p → IsAbove last p.0
      → (m : FinMap nat_cmp ℕ) → AreEntries IsFit (Some p.0) after (texts (drop (i + 1) ts)) m
      → AreEntries IsFit last before (texts (drop i ts)) m
  entries_front found fit above m h = rw (left_is ts i d lt) (p, rw some at found, fit, above, rw is at h)

  pub entries_back : ((q : ℕ × ℕ) → IsPair (slice_index_or ts i d).now q → r ≡ Some q)
      → (m : FinMap nat_cmp ℕ) → AreEntries IsFit last before (texts (drop i ts)) m
      → AreEntries IsFit (Some p.0) after (texts (drop (i + 1) ts)) m
  entries_back only m h =
      let f : AreEntries IsFit last before ((slice_index_or ts i d).now ∷ texts (drop (i + 1) ts)) m = rw (left_is ts i d lt) at h in
      let same : f.0 ≡ p = some_same p f.0 (sym some ∙ only f.0 f.1) in
      let rest : AreEntries IsFit (Some p.0) (insert before p.0 p.1) (texts (drop (i + 1) ts)) m = rw same at f.4 in
      rw (sym is) at rest

-- one number more has been read: r is what its token was read as
module _ (ts : List (Bor (List ℕ))) (i : ℕ) (d : Bor (List ℕ)) (before after : List ℕ) (n : ℕ) (r : Option ℕ) (lt : i < length ts)
    (some : r ≡ Some n) (is : after ≡ before ++ n ∷ []) where
  pub numbers_front : IfSome r (IsNumber (slice_index_or ts i d).now) →
      ((ns : List ℕ) → AreNumbers (texts (drop i ts)) ns → AreNumbers (texts ts) (before ++ ns))
      → (ns : List ℕ) → AreNumbers (texts (drop (i + 1) ts)) ns → AreNumbers (texts ts) (after ++ ns)
  numbers_front found front ns h = rw (is, append_assoc before (n ∷ []) ns) (front (n ∷ ns) (rw (left_is ts i d lt) (rw some at found, h)))

  pub numbers_back : ((m : ℕ) → IsNumber (slice_index_or ts i d).now m → r ≡ Some m) → (all : List ℕ)
      → (ms : List ℕ) × AreNumbers (texts (drop i ts)) ms × (all ≡ before ++ ms)
      → (ms : List ℕ) × AreNumbers (texts (drop (i + 1) ts)) ms × (all ≡ after ++ ms)
  numbers_back only all f = next_numbers all f.0 (rw (left_is ts i d lt) at f.1) f.2
    where
      next_numbers : (all ms : List ℕ) → AreNumbers ((slice_index_or ts i d).now ∷ texts (drop (i + 1) ts)) ms → all ≡ before ++ ms
          → (rest : List ℕ) × AreNumbers (texts (drop (i + 1) ts)) rest × (all ≡ after ++ rest)
      next_numbers all [] h e = elim h [ ]
      next_numbers all (m ∷ ms) h e =
          let same : m ≡ n = some_number n m (sym some ∙ only m h.0) in
          (ms, h.1, e ∙ ap (λ k. before ++ (k ∷ ms)) same ∙ sym (append_assoc before (n ∷ []) ms) ∙ ap (λ xs. xs ++ ms) (sym is))

-- some copies, not none
pub some_copies : (m after : FinMap nat_cmp ℕ) (element count : ℕ) → count ≢ 0 → after ≡ with_copies m element count
    → after ≡ insert m element count
some_copies m after element zero some is = absurd (some refl)
some_copies m after element (suc count) some is = grind (arith, nat_tests)

none_left : (ts : List (Bor (List ℕ))) (i : ℕ) → length ts ≤ i → texts (drop i ts) ≡ []
none_left [] zero le = refl
none_left [] (suc i) le = refl
none_left (t ∷ ts) zero le = absurd (omega (arith, le))
none_left (t ∷ ts) (suc i) le = none_left ts i (omega (arith, le))

-- where none is left, all have been read
pub all_numbers : (ts : List (Bor (List ℕ))) (i : ℕ) (ns : List ℕ) → length ts ≤ i
    → ((ms : List ℕ) → AreNumbers (texts (drop i ts)) ms → AreNumbers (texts ts) (ns ++ ms)) → AreNumbers (texts ts) ns
all_numbers ts i ns le front = rw (append-nil ns) at (front [] (rw (none_left ts i le) tt))
