-- Turns, sorted.
use Rattle.std.proofs.Common.{◌≡◌, ℕ, zero, suc, ◌<◌, ◌≤◌, Bool, true, false, cond, not, ◌&&◌, List, [], ◌∷◌, length, get_or, filter}
use Rattle.std.proofs.Common.{nat_cmp, is_lt, refl, sym, ◌∙◌, ap, subst, arith, inl, inr, suc-le-suc, zero-le}
use Rattle.std.specs.Ordering.{bool_cmp, ordering_then}
use Rattle.std.specs.Cmp.{IsStrictWeakOrder, bool_cmp_total}
use Rattle.std.specs.List.Sorted.{ties, IsSortedBy, IsStableBy}
use Rattle.std.proofs.lemmas.Bool.{cond-true, cond-false, cases_Bool, and_parts, not-true}
use Rattle.std.proofs.lemmas.Bool.Decides.{nat_tests}
use Rattle.std.proofs.lemmas.Cmp.{then_total, on_total, nat_cmp_total}
use Rattle.std.proofs.lemmas.List.Sorted.{sorted_far, ranks_by}
use Rattle.seq_model.specs.Ranks.{Rank, is_before, put_rank, sort_ranks, NoneIsBefore, AreRanked}

-- ---- the order of ranks
ranked : IsStrictWeakOrder is_before
ranked = ranks_by (then_total (then_total (on_total (λ (t : Rank). t.0) nat_cmp_total) (on_total (λ (t : Rank). t.1) bool_cmp_total))
    (on_total (λ (t : Rank). t.2) nat_cmp_total)) (λ t. t)

abbrev before : ℕ → Bool → ℕ → ℕ → Bool → ℕ → Bool
before n r a m s b = is_lt (ordering_then (ordering_then (nat_cmp n m) (bool_cmp r s)) (nat_cmp a b))

tie_number : (n m a b : ℕ) (r s : Bool) → before n r a m s b ≡ false → before m s b n r a ≡ false → n ≡ m
tie_number n m a b true true h g = grind (arith, nat_tests)
tie_number n m a b true false h g = grind (arith, nat_tests)
tie_number n m a b false true h g = grind (arith, nat_tests)
tie_number n m a b false false h g = grind (arith, nat_tests)

tie_reader : (n m a b : ℕ) (r s : Bool) → before n r a m s b ≡ false → before m s b n r a ≡ false → r ≡ s
tie_reader n m a b true true h g = refl
tie_reader n m a b true false h g = grind (arith, nat_tests)
tie_reader n m a b false true h g = grind (arith, nat_tests)
tie_reader n m a b false false h g = refl

tie_place : (n m a b : ℕ) (r s : Bool) → before n r a m s b ≡ false → before m s b n r a ≡ false → a ≡ b
tie_place n m a b true true h g = grind (arith, nat_tests)
tie_place n m a b true false h g = grind (arith, nat_tests)
tie_place n m a b false true h g = grind (arith, nat_tests)
tie_place n m a b false false h g = grind (arith, nat_tests)

pub rising_numbers : (n m a b : ℕ) (r s : Bool) → before n r a m s b ≡ false → m ≤ n
rising_numbers n m a b true true h = grind (arith, nat_tests)
rising_numbers n m a b true false h = grind (arith, nat_tests)
rising_numbers n m a b false true h = grind (arith, nat_tests)
rising_numbers n m a b false false h = grind (arith, nat_tests)

one_of : (t u : Rank) → is_before t u ≡ false → is_before u t ≡ false → t ≡ u
one_of t u h g =
    ap (λ n. (n, t.1, t.2)) (tie_number t.0 u.0 t.2 u.2 t.1 u.1 h g) ∙ ap (λ r. (u.0, r, t.2)) (tie_reader t.0 u.0 t.2 u.2 t.1 u.1 h g)
    ∙ ap (λ a. (u.0, u.1, a)) (tie_place t.0 u.0 t.2 u.2 t.1 u.1 h g)

not_itself : (t : Rank) → is_before t t ≡ false
not_itself t = elim (cases_Bool (is_before t t)) [ inl goes ↦ ranked.one_way t t goes | inr stays ↦ stays ]

abbrev same : Rank → Rank → Bool
same t = ties is_before t

same-is : (t u : Rank) → same t u ≡ true → t ≡ u
same-is t u h =
    let parts = and_parts (not (is_before t u)) (not (is_before u t)) h in
    one_of t u (not-true _ parts.0) (not-true _ parts.1)

same_itself : (t : Rank) → same t t ≡ true
same_itself t = ap (λ b. not b && not b) (not_itself t)

-- ---- sorted by insertion
filter-kept : (p : Rank → Bool) (t : Rank) (ts : List Rank) → p t ≡ true → filter p (t ∷ ts) ≡ t ∷ filter p ts
filter-kept p t ts h = cond-true _ _ _ h

filter-dropped : (p : Rank → Bool) (t : Rank) (ts : List Rank) → p t ≡ false → filter p (t ∷ ts) ≡ filter p ts
filter-dropped p t ts h = cond-false _ _ _ h

exchanged : (a b : Bool) (t u : Rank) (ts : List Rank) → (a ≡ true → b ≡ true → t ≡ u)
    → cond b (u ∷ cond a (t ∷ ts) ts) (cond a (t ∷ ts) ts) ≡ cond a (t ∷ cond b (u ∷ ts) ts) (cond b (u ∷ ts) ts)
exchanged true true t u ts h = let e : t ≡ u = h refl refl in cc
exchanged true false t u ts h = refl
exchanged false true t u ts h = refl
exchanged false false t u ts h = refl

filter-put : (x t : Rank) (ts : List Rank) → filter (same x) (put_rank t ts) ≡ filter (same x) (t ∷ ts)
filter-put x t [] = refl
filter-put x t (u ∷ us) =
    elim (cases_Bool (is_before t u)) [
      | inl goes ↦ ap (filter (same x)) (cond-true _ _ _ goes)
      | inr stays ↦
          ap (filter (same x)) (cond-false _ _ _ stays) ∙ ap (λ l. cond (same x u) (u ∷ l) l) (filter-put x t us)
          ∙ exchanged (same x t) (same x u) t u (filter (same x) us) (λ h g. sym (same-is x t h) ∙ same-is x u g)
    ]

filter-sort : (x : Rank) (ts : List Rank) → filter (same x) (sort_ranks ts) ≡ filter (same x) ts
filter-sort x [] = refl
filter-sort x (t ∷ ts) = filter-put x t (sort_ranks ts) ∙ ap (λ l. cond (same x t) (t ∷ l) l) (filter-sort x ts)

none_put : (x t : Rank) (ts : List Rank) → is_before t x ≡ false → NoneIsBefore x ts → NoneIsBefore x (put_rank t ts)
none_put x t [] h none = (h, tt)
none_put x t (u ∷ us) h none =
    elim (is_before t u) as (λ b. NoneIsBefore x (cond b (t ∷ u ∷ us) (u ∷ put_rank t us)))
    [ true ↦ (h, none) | false ↦ (none.0, none_put x t us h none.1) ]

none_further : (t u : Rank) (ts : List Rank) → is_before u t ≡ false → NoneIsBefore u ts → NoneIsBefore t ts
none_further t u [] h none = tt
none_further t u (v ∷ vs) h none = (ranked.chain v u t none.0 h, none_further t u vs h none.1)

in_turn_put : (t : Rank) (ts : List Rank) → AreRanked ts → AreRanked (put_rank t ts)
in_turn_put t [] h = (tt, tt)
in_turn_put t (u ∷ us) h =
    elim (is_before t u) as (λ b. is_before t u ≡ b → AreRanked (cond b (t ∷ u ∷ us) (u ∷ put_rank t us))) [
      | true ↦ λ e. let back = ranked.one_way t u e in ((back, none_further t u us back h.0), h)
      | false ↦ λ e. (none_put u t us e h.0, in_turn_put t us h.1)
    ] refl

pub in_turn_sorted : (ts : List Rank) → AreRanked (sort_ranks ts)
in_turn_sorted [] = tt
in_turn_sorted (t ∷ ts) = in_turn_put t (sort_ranks ts) (in_turn_sorted ts)

-- ---- a ranked list is the only one with its ranks
found : (x w : Rank) (ts : List Rank) (v : Rank) (vs : List Rank) → NoneIsBefore w ts → filter (same x) ts ≡ v ∷ vs → is_before x w ≡ false
found x w [] v vs h e = cc
found x w (t ∷ ts) v vs h e =
    elim (cases_Bool (same x t)) [
      | inl with ↦ subst (λ y. is_before y w ≡ false) (sym (same-is x t with)) h.0
      | inr without ↦ found x w ts v vs h.1 (sym (filter-dropped (same x) t ts without) ∙ e)
    ]

only_one : (ys zs : List Rank) → AreRanked ys → AreRanked zs → ((x : Rank) → filter (same x) ys ≡ filter (same x) zs) → ys ≡ zs
only_one [] [] left right alike = refl
only_one [] (z ∷ zs) left right alike = let clash = alike z ∙ filter-kept (same z) z zs (same_itself z) in cc
only_one (y ∷ ys) [] left right alike = let clash = sym (alike y) ∙ filter-kept (same y) y ys (same_itself y) in cc
only_one (y ∷ ys) (z ∷ zs) left right alike =
    let at_y = filter-kept (same y) y ys (same_itself y) in
    let at_z = filter-kept (same z) z zs (same_itself z) in
    let up = found y z (z ∷ zs) y _ (not_itself z, right.0) (sym (alike y) ∙ at_y) in
    let down = found z y (y ∷ ys) z _ (not_itself y, left.0) (alike z ∙ at_z) in
    let head = one_of y z up down in
    let tails : (x : Rank) → filter (same x) ys ≡ filter (same x) zs =
    λ x. elim (cases_Bool (same x y)) [
      | inl with ↦
          let both = sym (filter-kept (same x) y ys with) ∙ alike x ∙ filter-kept (same x) z zs (ap (same x) (sym head) ∙ with) in cc
      | inr without ↦
          sym (filter-dropped (same x) y ys without) ∙ alike x ∙ filter-dropped (same x) z zs (ap (same x) (sym head) ∙ without)
    ] in
    ap (λ t. t ∷ ys) head ∙ ap (λ ts. z ∷ ts) (only_one ys zs left.1 right.1 tails)

none_at : (t : Rank) (ts : List Rank) → ((j : ℕ) (d : Rank) → j < length ts → is_before (get_or ts j d) t ≡ false) → NoneIsBefore t ts
none_at t [] h = tt
none_at t (u ∷ us) h = (h zero u (suc-le-suc zero-le), none_at t us (λ j d lt. h (suc j) d (suc-le-suc lt)))

in_turn_far : (ts : List Rank) → ((i j : ℕ) (d : Rank) → i ≤ j → j < length ts → is_before (get_or ts j d) (get_or ts i d) ≡ false)
    → AreRanked ts
in_turn_far [] h = tt
in_turn_far (t ∷ ts) h = (
  none_at t ts (λ j d lt. h zero (suc j) d zero-le (suc-le-suc lt)),
  in_turn_far ts (λ i j d le lt. h (suc i) (suc j) d (suc-le-suc le) (suc-le-suc lt)),
)

-- what a stable sort makes
pub sorted_turns : (xs ys : List Rank) → IsSortedBy is_before ys → IsStableBy is_before xs ys → ys ≡ sort_ranks xs
sorted_turns xs ys sorted stable =
    only_one ys (sort_ranks xs) (in_turn_far ys (sorted_far is_before ranked ys sorted)) (in_turn_sorted xs)
    (λ x. stable x ∙ sym (filter-sort x xs))
