-- The place of a location among entries that rise, and what an edit there does.
use Rattle.std.proofs.Common.{◌≡◌, ℕ, zero, suc, ◌+◌, ◌<◌, ◌≤◌, ◌-◌, cond, ltb, lt-ltb, le-ltb, refl, Option, Some, None, Result, Ok, Err}
use Rattle.std.proofs.Common.{inl, inr, [], ◌∷◌, length, get_or, set, length-set, sym, ap, ◌∙◌, arith, subst}
use Rattle.std.specs.List.{insert, All, AllWithin, count_by}
use Rattle.std.proofs.lemmas.List.Elements.{All-cons}
use Rattle.std.proofs.lemmas.List.Sums.{sum_by-cons}
use Rattle.std.specs.List.Sorted.{IsSearchInRange, IsBinarySearchResult, IsNonDecreasingBy}
use Rattle.std.specs.Ordering.{nat_cmp, ordering_index}
use Rattle.std.specs.declared.cmp.Ordering.TheVariants.{Less, Equal, Greater}
use Rattle.std.specs.Prelude.{true, false, IsSome}
use Rattle.std.proofs.lemmas.Bool.{cases_eq, cases_lt, cond-true, cond-false}
use Rattle.std.proofs.lemmas.Bool.Decides.{nat_tests}
use Rattle.std.proofs.lemmas.Cmp.{ranked}
use Rattle.std.proofs.lemmas.List.{get_or_default}
use Rattle.tx_sets.specs.AccessSet.{AreOrderly, IsPositionOf}
use Rattle.tx_sets.specs.declared.access_set.TheConstants.{LOCATION_LIMIT}
use Rattle.tx_sets.specs.Entries.{Entries, lookup, with_entry, IsRising}
use Rattle.tx_sets.proofs.EntryLemmas.{IsRising-with_entry, length-with_entry_new, lookup-head, lookup-tail, lookup_absent, with_entry-nil}
use Rattle.tx_sets.proofs.EntryLemmas.{with_entry_below, with_entry_at, with_entry_above}

pub rising_at : (es : Entries) → IsRising es → (i j : ℕ) (d : ℕ × ℕ) → i < j → j < length es → (get_or es i d).0 < (get_or es j d).0
rising_at [] rising i j d lt inside = absurd (omega (arith, inside))
rising_at (e ∷ es) rising i zero d lt inside = absurd (omega (arith, lt))
rising_at (e ∷ es) rising zero (suc j) d lt inside = rising.0 j d (omega (arith, inside))
rising_at (e ∷ es) rising (suc i) (suc j) d lt inside = rising_at es rising.1 i j d (omega (arith, lt)) (omega (arith, inside))

pub lookup_there : (es : Entries) (l i : ℕ) (d : ℕ × ℕ) → IsRising es → i < length es → ((c : ℕ × ℕ) → (get_or es i c).0 ≡ l)
    → lookup es l ≡ Some (get_or es i d).1
lookup_there [] l i d rising inside is = absurd (omega (arith, inside))
lookup_there (e ∷ es) l zero d rising inside is = ap (lookup (e ∷ es)) (sym (is e)) ∙ lookup-head e es
lookup_there (e ∷ es) l (suc i) d rising inside is =
    let above = rising.0 i e (omega (arith, inside)) in
    lookup-tail e es l (λ q. omega (arith, above, is e, q)) ∙ lookup_there es l i d rising.1 (omega (arith, inside)) is

pub set_there : (es : Entries) (l v i : ℕ) → IsRising es → i < length es → ((c : ℕ × ℕ) → (get_or es i c).0 ≡ l)
    → set es i (l, v) ≡ with_entry es l v
set_there [] l v i rising inside is = absurd (omega (arith, inside))
set_there (e ∷ es) l v zero rising inside is = sym (with_entry_at e es l v (sym (is e)))
set_there (e ∷ es) l v (suc i) rising inside is =
    let above = rising.0 i e (omega (arith, inside)) in
    ap (λ (z : Entries). e ∷ z) (set_there es l v i rising.1 (omega (arith, inside)) is)
    ∙ sym (with_entry_above e es l v (omega (arith, above, is e)))

-- the value of an entry that is there, written over
pub write_there : (es : Entries) (l v i : ℕ) (d : ℕ × ℕ) → IsRising es → IsPositionOf l es (Ok i) → d ≡ get_or es i d
    → set es i (d.0, v) ≡ with_entry es l v
write_there es l v i d rising place is =
    ap (λ (n : ℕ). set es i (n, v)) (ap (λ (e : ℕ × ℕ). e.0) is ∙ place.1 d) ∙ set_there es l v i rising place.0 place.1

pub lookup_gap : (es : Entries) (l i : ℕ) → AllWithin (λ e. e.0 < l) es 0 i → AllWithin (λ e. l < e.0) es i (length es) → lookup es l ≡ None
lookup_gap es l i below above =
    lookup_absent es l (λ k d inside same. let lt : k < i → ⊥ = λ h. omega (arith, below k d (omega arith) h, same) in omega
    (arith, above k d (omega (arith, lt)) inside, same))

pub insert_gap : (es : Entries) (l v i : ℕ) → i ≤ length es → AllWithin (λ e. e.0 < l) es 0 i → AllWithin (λ e. l < e.0) es i (length es)
    → insert es i (l, v) ≡ with_entry es l v
insert_gap [] l v zero le below above = sym (with_entry-nil l v)
insert_gap [] l v (suc i) le below above = absurd (omega (arith, le))
insert_gap (e ∷ es) l v zero le below above = sym (with_entry_below e es l v (above 0 e (omega arith) (omega arith)))
insert_gap (e ∷ es) l v (suc i) le below above =
    ap (λ (z : Entries). e ∷ z)
    (insert_gap es l v i (omega (arith, le)) (λ k d ge lt. below (suc k) d (omega arith) (omega (arith, lt)))
    (λ k d ge lt. above (suc k) d (omega (arith, ge)) (omega (arith, lt))))
    ∙ sym (with_entry_above e es l v (below 0 e (omega arith) (omega arith)))

index_le : (x y k : ℕ) → x < y → ordering_index (nat_cmp x k) ≤ ordering_index (nat_cmp y k)
index_le x y k lt = grind (arith, nat_tests)

-- the comparisons with a location rise along the entries, as a search by halves asks
comparisons_rise : (l : ℕ) (es : Entries) → IsRising es → IsNonDecreasingBy (λ e. ordering_index (nat_cmp e.0 l)) es
comparisons_rise l es rising i j d le inside =
    elim (cases_eq i j) [
      | inl same ↦ omega (arith, ap (λ (n : ℕ). ordering_index (nat_cmp (get_or es n d).0 l)) same)
      | inr ne ↦ index_le (get_or es i d).0 (get_or es j d).0 l (rising_at es rising i j d (omega (arith, le, ne)) inside)
    ]

pub searched : (l : ℕ) (es : Entries) → IsRising es → (place : Result ℕ ℕ) → IsSearchInRange place (length es)
    → IsBinarySearchResult (λ e. nat_cmp e.0 l) es place → IsPositionOf l es place
searched l es rising (Ok at) inside is = (inside, λ d. ranked (get_or es at d).0 l Equal (sym (is d)))
searched l es rising (Err at) inside parts =
    let sides = parts (comparisons_rise l es rising) in (
      inside,
      (
        (λ k d ge lt. ranked (get_or es k d).0 l Less (sym (sides.0 k d ge lt))),
        (λ k d ge lt. ranked (get_or es k d).0 l Greater (sym (sides.1 k d ge lt))),
      ),
    )

-- a location above all others goes to the end
above_all : (l : ℕ) (es : Entries) (n : ℕ) → n ≡ length es → ((k : ℕ) (c : ℕ × ℕ) → k < length es → (get_or es k c).0 < l)
    → IsPositionOf l es (Err n)
above_all l es n all below =
    (omega (arith, all), ((λ k c ge lt. below k c (omega (arith, lt, all))), (λ k c ge lt. absurd (omega (arith, ge, lt, all)))))

pub empty_place : (l : ℕ) (es : Entries) (n : ℕ) → n ≡ length es → n ≡ 0 → IsPositionOf l es (Err n)
empty_place l es n all none = above_all l es n all (λ k c lt. absurd (omega (arith, lt, all, none)))

pub last_place : (l : ℕ) (es : Entries) (n : ℕ) (d : ℕ × ℕ) → IsRising es → n ≡ length es → (get_or es (n - 1) d).0 < l
    → IsPositionOf l es (Err n)
last_place l es n d rising all last = above_all l es n all below
  where
    below : (k : ℕ) (c : ℕ × ℕ) → k < length es → (get_or es k c).0 < l
    below k c inside =
        let first = ap (λ (x : ℕ × ℕ). x.0) (get_or_default es k c d inside) in
        elim (cases_eq k (n - 1)) [
          | inl q ↦ omega (arith, last, ap (λ (i : ℕ). (get_or es i d).0) q, first)
          | inr ne ↦ omega (
            arith,
            last,
            rising_at es rising k (n - 1) d (omega (arith, inside, ne, all)) (omega (arith, inside, all)),
            first,
          )
        ]

-- A location goes after an entry that is below it, or to the front, and before one that is above it, or to the end.
pub between : (l : ℕ) (es : Entries) (n : ℕ) → IsRising es → n ≤ length es
    → (0 < n → (d : ℕ × ℕ) → (get_or es (n - 1) d).0 < l) → (n < length es → (d : ℕ × ℕ) → l < (get_or es n d).0)
    → IsPositionOf l es (Err n)
between l es n rising within below above = (within, (low, high))
  where
    low : (k : ℕ) (c : ℕ × ℕ) → 0 ≤ k → k < n → (get_or es k c).0 < l
    low k c ge lt =
        elim (cases_eq k (n - 1)) [
          | inl q ↦ omega (arith, below (omega (arith, lt)) c, ap (λ (i : ℕ). (get_or es i c).0) q)
          | inr ne ↦
              omega (
                arith,
                below (omega (arith, lt)) c,
                rising_at es rising k (n - 1) c
                    (omega (arith, lt, ne)) (omega (arith, lt, within)),
              )
        ]

    high : (k : ℕ) (c : ℕ × ℕ) → n ≤ k → k < length es → l < (get_or es k c).0
    high k c ge lt =
        elim (cases_eq k n) [
          | inl q ↦ omega (arith, above (omega (arith, lt, q)) c, ap (λ (i : ℕ). (get_or es i c).0) q)
          | inr ne ↦ omega (arith, above (omega (arith, ge, lt)) c, rising_at es rising n k c (omega (arith, ge, ne)) lt)
        ]

-- a new entry put where it goes
pub put_new : (es fs gs : Entries) (l v i : ℕ) → IsPositionOf l es (Err i) → fs ≡ es → gs ≡ insert fs i (l, v) → gs ≡ with_entry es l v
put_new es fs gs l v i place same is = is ∙ ap (λ (z : Entries). insert z i (l, v)) same ∙ insert_gap es l v i place.0 place.1.0 place.1.1

-- both leave the entries orderly
pub orderly_there : (es : Entries) (l v i : ℕ) (d : ℕ × ℕ) → AreOrderly es → IsPositionOf l es (Ok i) → d ≡ get_or es i d
    → AreOrderly (set es i (d.0, v))
orderly_there es l v i d orderly place is = record {
  rising = subst IsRising (sym (write_there es l v i d orderly.rising place is)) (IsRising-with_entry es l v orderly.rising);
  within = omega (arith, length-set es i (d.0, v), orderly.within);
}

pub orderly_new : (es fs gs : Entries) (l v i : ℕ) → AreOrderly es → IsPositionOf l es (Err i) → fs ≡ es → gs ≡ insert fs i (l, v)
    → length es < LOCATION_LIMIT → AreOrderly gs
orderly_new es fs gs l v i orderly place same is fewer =
    let put = put_new es fs gs l v i place same is in
    record {
      rising = subst IsRising (sym put) (IsRising-with_entry es l v orderly.rising);
      within = omega (
        arith,
        ap (λ (z : Entries). length z) put,
        length-with_entry_new es l v (lookup_gap es l i place.1.0 place.1.1),
        fewer,
      );
    }

pub not_there : (o : Option ℕ) → o ≡ None → IsSome o → ⊥
not_there o none some = let b : false ≡ true = subst (λ (x : Option ℕ). IsSome x) none some in cc

-- how many entries are below a location, by recursion
below : ℕ → Entries → ℕ
below l [] = 0
below l (e ∷ es) = cond (ltb e.0 l) 1 0 + below l es

below-count_by : (l : ℕ) (es : Entries) → count_by (λ e. ltb e.0 l) es ≡ below l es
unfolding below
below-count_by l [] = refl
below-count_by l (e ∷ es) = sum_by-cons (λ x. cond (ltb x.0 l) 1 0) e es ∙ ap (λ (n : ℕ). cond (ltb e.0 l) 1 0 + n) (below-count_by l es)

below_head : (l : ℕ) (e : ℕ × ℕ) (es : Entries) → e.0 < l → below l (e ∷ es) ≡ suc (below l es)
unfolding below
below_head l e es lt = ap (λ (n : ℕ). n + below l es) (cond-true (ltb e.0 l) 1 0 (lt-ltb e.0 l lt)) ∙ omega arith

below_none : (l : ℕ) (es : Entries) → All (λ e. l ≤ e.0) es → below l es ≡ 0
unfolding below
below_none l [] above = refl
below_none l (e ∷ es) above =
    ap (λ (n : ℕ). n + below l es) (cond-false (ltb e.0 l) 1 0 (le-ltb e.0 l (above 0 e (omega arith))))
    ∙ omega (arith, below_none l es (λ k d h. above (suc k) d (omega (arith, h))))

first_and_rest : (P : ℕ × ℕ → Type 0) (e : ℕ × ℕ) (es : Entries) (n : ℕ) → P e → AllWithin P es 0 n → (k : ℕ) (d : ℕ × ℕ) → k < suc n
    → P (get_or (e ∷ es) k d)
first_and_rest P e es n one all zero d lt = one
first_and_rest P e es n one all (suc k) d lt = all k d (omega arith) (omega (arith, lt))

rest_after : (P : ℕ × ℕ → Type 0) (e : ℕ × ℕ) (es : Entries) (n m : ℕ) → AllWithin P es n m → (k : ℕ) (d : ℕ × ℕ) → suc n ≤ k → k < suc m
    → P (get_or (e ∷ es) k d)
rest_after P e es n m all zero d ge lt = absurd (omega (arith, ge))
rest_after P e es n m all (suc k) d ge lt = all k d (omega (arith, ge)) (omega (arith, lt))

-- as many entries as are below a location stand before the others
parted : (l : ℕ) (es : Entries) → IsRising es → (below l es ≤ length es) × AllWithin (λ e. e.0 < l) es 0 (below l es)
    × AllWithin (λ e. l ≤ e.0) es (below l es) (length es)
parted l [] rising =
    let none = below_none l [] (λ k d h. absurd (omega (arith, h))) in
    (omega (arith, none), (λ k d ge lt. absurd (omega (arith, lt, none))), (λ k d ge lt. absurd (omega (arith, lt))))
parted l (e ∷ es) rising =
    let rest = parted l es rising.1 in
    elim (cases_lt e.0 l) [
      | inl lt ↦
          let head = below_head l e es lt in (
            omega (arith, head, rest.0),
            (λ k d ge h. first_and_rest (λ x. x.0 < l) e es (below l es) lt rest.1 k d (omega (arith, h, head))),
            (λ k d ge h. rest_after (λ x. l ≤ x.0) e es (below l es) (length es) rest.2 k d (omega (arith, ge, head)) (omega (arith, h))),
          )
      | inr le ↦
          let all : All (λ x. l ≤ x.0) (e ∷ es) = All-cons (λ x. l ≤ x.0) e es le (λ k d h. omega (arith, le, rising.0 k d h)) in
          let none = below_none l (e ∷ es) all in
          (omega (arith, none), (λ k d ge h. absurd (omega (arith, h, none))), (λ k d ge h. all k d h))
    ]

-- a location that none of the entries has goes after those below it
pub counted_gap : (l : ℕ) (es : Entries) (n : ℕ) → IsRising es → n ≡ count_by (λ e. ltb e.0 l) es
    → ((d : ℕ × ℕ) → n < length es → (get_or es n d).0 ≡ l → ⊥) → IsPositionOf l es (Err n)
counted_gap l es n rising counted other =
    let parts = parted l es rising in
    let same : n ≡ below l es = counted ∙ below-count_by l es in (
      omega (arith, parts.0, same),
      (
        (λ k d ge lt. parts.1 k d ge (omega (arith, lt, same))),
        (λ k d ge lt.
            elim (cases_eq k n) [
              | inl q ↦
                  let apart : (get_or es k d).0 ≡ l → ⊥ = λ z. other d (omega (arith, lt, q))
                  (ap (λ (i : ℕ). (get_or es i d).0) (sym q) ∙ z) in
                  omega (arith, parts.2 k d (omega (arith, ge, same)) lt, apart)
              | inr ne ↦
                  omega (
                    arith,
                    parts.2 n d (omega (arith, same)) (omega (arith, ge, lt)),
                    rising_at es rising n k d (omega (arith, ge, ne)) lt,
                  )
            ]
            ),
      ),
    )
