-- Entries that are laid over others, one after another from the least on.
use Rattle.std.proofs.Common.{◌≡◌, ℕ, zero, suc, ◌+◌, ◌<◌, ◌≤◌, true, false, cond, List, [], ◌∷◌, ◌++◌, All, length, get_or, take, drop}
use Rattle.std.proofs.Common.{Bool, ◌&&◌, Result, Ok, Err, refl, sym, ap, subst, ◌∙◌, arith, append_assoc}
use Rattle.std.proofs.Common.{◌-◌}
use Rattle.std.proofs.Math.Seq.{take-suc}
use Rattle.std.proofs.lemmas.List.{length-drop, length-take-le, take_all}
use Rattle.std.proofs.lemmas.List.Sums.{fold-append}
use Rattle.seq_model.specs.Counts.{Multiset}
use Rattle.std.specs.Ordering.{nat_cmp, is_eq}
use Rattle.std.specs.declared.cmp.Ordering.{Ordering}
use lib.Dec.{T}
use Rattle.std.specs.FinMap.{entries, from_sorted, put, remove as map_remove}
use Rattle.std.specs.List.{remove}
use Rattle.std.specs.FinMap.Entries.{by_order, below_all}
use Rattle.std.proofs.Common.{not}
use Rattle.std.proofs.lemmas.List.Elements.{All-head, All-tail, All-cons, All-nil, All-append}
use Rattle.seq_model.specs.Entries.{IsPositionOf, IsRising, rank, has_key}
use Rattle.seq_model.proofs.EntryLemmas.{below_at, both_true, by_cases, greater_of, less_of, remove_there, without, without_below}
use Rattle.base_pq.specs.Laid.{laid_by, through, with_number}

both_hold : (a b : Bool) → T a → T b → T (a && b)
both_hold true b p q = q
both_hold false b p q = absurd p

-- the entry goes after those with lesser keys
put_behind : (k c : ℕ) (made rest : List (ℕ × ℕ)) → All (λ e. e.0 < k) made → put nat_cmp k c (made ++ rest) ≡ made ++ put nat_cmp k c rest
put_behind k c [] rest low = refl
put_behind k c (e ∷ made) rest low =
    ap (λ r. by_order r ((k, c) ∷ e ∷ made ++ rest) ((e.0, c) ∷ made ++ rest) (e ∷ put nat_cmp k c (made ++ rest)))
    (greater_of k e.0 (All-head (λ x. x.0 < k) e made low))
    ∙ ap (λ t. e ∷ t) (put_behind k c made rest (All-tail (λ x. x.0 < k) e made low))

without_behind : (k : ℕ) (made rest : List (ℕ × ℕ)) → All (λ e. e.0 < k) made → without k (made ++ rest) ≡ made ++ without k rest
without_behind k [] rest low = refl
without_behind k (e ∷ made) rest low =
    ap (λ r. cond (not (is_eq r)) (e ∷ without k (made ++ rest)) (without k (made ++ rest)))
    (greater_of k e.0 (All-head (λ x. x.0 < k) e made low))
    ∙ ap (λ t. e ∷ t) (without_behind k made rest (All-tail (λ x. x.0 < k) e made low))

-- it stands in place of the one that has its key, if there is one
put_at : (k c : ℕ) (es : List (ℕ × ℕ)) → put nat_cmp k c es ≡ take (rank k es) es ++ (k, c) ∷ drop (through k es) es
put_at k c [] = refl
put_at k c (e ∷ es) =
    by_cases k e.0 (λ r. by_order r ((k, c) ∷ e ∷ es) ((e.0, c) ∷ es) (e ∷ put nat_cmp k c es)
    ≡ take (by_order r 0 0 (suc (rank k es))) (e ∷ es)
    ++ (k, c) ∷ drop (by_order r 0 0 (suc (rank k es)) + cond (by_order r false true (has_key k es)) 1 0) (e ∷ es))
    (λ lt. refl)
    (λ same. ap (λ x. (x, c) ∷ es) (sym same))
    (λ gt.
    let count : suc (rank k es) + cond (has_key k es) 1 0 ≡ suc (through k es) = omega arith in
    ap (λ t. e ∷ t) (put_at k c es) ∙ ap (λ n. e ∷ take (rank k es) es ++ (k, c) ∷ drop n (e ∷ es)) (sym count))

without_at : (k : ℕ) (es : List (ℕ × ℕ)) → IsRising es → without k es ≡ take (rank k es) es ++ drop (through k es) es
without_at k [] s = refl
without_at k (e ∷ es) s =
    by_cases k e.0 (λ r. cond (not (is_eq r)) (e ∷ without k es) (without k es)
    ≡ take (by_order r 0 0 (suc (rank k es))) (e ∷ es)
    ++ drop (by_order r 0 0 (suc (rank k es)) + cond (by_order r false true (has_key k es)) 1 0) (e ∷ es))
    (λ lt. ap (λ t. e ∷ t) (without_below k es (λ j d l. omega (arith, below_at e.0 es (both_true _ _ s).0 j d l))))
    (λ same. without_below k es (λ j d l. omega (arith, below_at e.0 es (both_true _ _ s).0 j d l)))
    (λ gt.
    let count : suc (rank k es) + cond (has_key k es) 1 0 ≡ suc (through k es) = omega arith in
    ap (λ t. e ∷ t) (without_at k es (both_true _ _ s).1) ∙ ap (λ n. e ∷ take (rank k es) es ++ drop n (e ∷ es)) (sym count))

pub put_laid : (k c : ℕ) (made now rest : List (ℕ × ℕ)) → All (λ e. e.0 < k) made → now ≡ (made ++ take (rank k rest) rest) ++ (k, c) ∷ []
    → now ++ drop (through k rest) rest ≡ put nat_cmp k c (made ++ rest)
put_laid k c made now rest low is =
    ap (λ t. t ++ drop (through k rest) rest) is
    ∙ append_assoc (made ++ take (rank k rest) rest) ((k, c) ∷ []) (drop (through k rest) rest)
    ∙ append_assoc made (take (rank k rest) rest) ((k, c) ∷ drop (through k rest) rest)
    ∙ ap (λ t. made ++ t) (sym (put_at k c rest)) ∙ sym (put_behind k c made rest low)

pub without_laid : (k : ℕ) (made now rest : List (ℕ × ℕ)) → IsRising rest → All (λ e. e.0 < k) made → now ≡ made ++ take (rank k rest) rest
    → now ++ drop (through k rest) rest ≡ without k (made ++ rest)
without_laid k made now rest s low is =
    ap (λ t. t ++ drop (through k rest) rest) is ∙ append_assoc made (take (rank k rest) rest) (drop (through k rest) rest)
    ∙ ap (λ t. made ++ t) (sym (without_at k rest s)) ∙ sym (without_behind k made rest low)

-- what stands before the place of a key is less
taken_below : (k : ℕ) (es : List (ℕ × ℕ)) → All (λ e. e.0 < k) (take (rank k es) es)
taken_below k [] = All-nil (λ e. e.0 < k)
taken_below k (e ∷ es) =
    by_cases k e.0 (λ r. All (λ x. x.0 < k) (take (by_order r 0 0 (suc (rank k es))) (e ∷ es)))
    (λ lt. All-nil (λ x. x.0 < k))
    (λ same. All-nil (λ x. x.0 < k))
    (λ gt. All-cons (λ x. x.0 < k) e (take (rank k es) es) gt (taken_below k es))

at_most : (k : ℕ) (es : List (ℕ × ℕ)) → All (λ e. e.0 < k) es → All (λ e. e.0 ≤ k) es
at_most k es low = λ j d lt. (let h = low j d lt in omega arith)

pub below_left : (k : ℕ) (made now rest : List (ℕ × ℕ)) → All (λ e. e.0 < k) made → now ≡ made ++ take (rank k rest) rest
    → All (λ e. e.0 ≤ k) now
below_left k made now rest low is =
    subst (All (λ e. e.0 ≤ k)) (sym is) (at_most k (made ++ take (rank k rest) rest)
    (All-append (λ e. e.0 < k) made (take (rank k rest) rest) low (taken_below k rest)))

pub below_put : (k c : ℕ) (made now rest : List (ℕ × ℕ)) → All (λ e. e.0 < k) made → now ≡ (made ++ take (rank k rest) rest) ++ (k, c) ∷ []
    → All (λ e. e.0 ≤ k) now
below_put k c made now rest low is =
    subst (All (λ e. e.0 ≤ k)) (sym is) (All-append (λ e. e.0 ≤ k) (made ++ take (rank k rest) rest) ((k, c) ∷ [])
    (below_left k made (made ++ take (rank k rest) rest) rest low refl)
    (All-cons (λ e. e.0 ≤ k) (k, c) [] (omega arith) (All-nil (λ e. e.0 ≤ k))))

-- a key below one of the entries has its place before that
near_rank : (n k : ℕ) (es : List (ℕ × ℕ)) → n < length es → ((d : ℕ × ℕ) → k < (get_or es n d).0)
    → (rank k (take n es) ≡ rank k es) × (has_key k (take n es) ≡ has_key k es)
near_rank n k [] within low = absurd (omega arith)
near_rank zero k (e ∷ es) within low =
    let P : Ordering → Type 0 = λ r. (0 ≡ by_order r 0 0 (suc (rank k es))) × (false ≡ by_order r false true (has_key k es)) in
    subst P (sym (less_of k e.0 (low e))) (refl, refl)
near_rank (suc n) k (e ∷ es) within low =
    let rest = near_rank n k es (omega arith) low in
    by_cases k e.0 (λ r. (by_order r 0 0 (suc (rank k (take n es))) ≡ by_order r 0 0 (suc (rank k es)))
    × (by_order r false true (has_key k (take n es)) ≡ by_order r false true (has_key k es)))
    (λ lt. (refl, refl))
    (λ same. (refl, refl))
    (λ gt. (ap suc rest.0, rest.1))

pub near_place : (n k : ℕ) (es : List (ℕ × ℕ)) (r : Result ℕ ℕ) → n < length es → ((d : ℕ × ℕ) → k < (get_or es n d).0)
    → IsPositionOf k (take n es) r → IsPositionOf k es r
near_place n k es (Ok i) within low p =
    let same = near_rank n k es within low in
    (omega (arith, p.0, within, length-take-le n es (omega (arith, within))), sym same.0 ∙ p.1, sym same.1 ∙ p.2)
near_place n k es (Err i) within low p =
    let same = near_rank n k es within low in
    (omega (arith, p.0, within, length-take-le n es (omega (arith, within))), sym same.0 ∙ p.1, sym same.1 ∙ p.2)

below_take : (n x : ℕ) (es : List (ℕ × ℕ)) → T (below_all nat_cmp x es) → T (below_all nat_cmp x (take n es))
below_take zero x es h = tt
below_take (suc n) x [] h = tt
below_take (suc n) x (e ∷ es) h = let both = both_true _ _ h in both_hold _ _ both.0 (below_take n x es both.1)

pub rising_take : (n : ℕ) (es : List (ℕ × ℕ)) → IsRising es → IsRising (take n es)
rising_take zero es s = tt
rising_take (suc n) [] s = tt
rising_take (suc n) (e ∷ es) s = let both = both_true _ _ s in both_hold _ _ (below_take n e.0 es both.0) (rising_take n es both.1)

-- a later key is greater
pub later_above : (es : List (ℕ × ℕ)) (i j : ℕ) (d e : ℕ × ℕ) → IsRising es → i < j → j < length es → (get_or es i d).0 < (get_or es j e).0
later_above [] i j d e s lt within = absurd (omega arith)
later_above (x ∷ es) i zero d e s lt within = absurd (omega arith)
later_above (x ∷ es) zero (suc j) d e s lt within = below_at x.0 es (both_true _ _ s).0 j e (omega arith)
later_above (x ∷ es) (suc i) (suc j) d e s lt within = later_above es i j d e (both_true _ _ s).1 (omega arith) (omega arith)

pub rising_after : (made rest : List (ℕ × ℕ)) → IsRising (made ++ rest) → IsRising rest
rising_after [] rest s = s
rising_after (e ∷ made) rest s = rising_after made rest (both_true _ _ s).1

pub rising_drop : (n : ℕ) (es : List (ℕ × ℕ)) → IsRising es → IsRising (drop n es)
rising_drop zero es s = s
rising_drop (suc n) [] s = s
rising_drop (suc n) (e ∷ es) s = rising_drop n es (both_true _ _ s).1

first_gone : (n : ℕ) (es : List (ℕ × ℕ)) → remove (drop n es) 0 ≡ drop (n + 1) es
first_gone zero [] = refl
first_gone zero (e ∷ es) = refl
first_gone (suc n) [] = let more : suc n + 1 ≡ suc (n + 1) = omega arith in ap (λ k. drop k []) (sym more)
first_gone (suc n) (e ∷ es) = let more : suc n + 1 ≡ suc (n + 1) = omega arith in first_gone n es ∙ ap (λ k. drop k (e ∷ es)) (sym more)

-- a search among the entries from n on that found the first
pub first_out : (n x : ℕ) (es : List (ℕ × ℕ)) → IsRising es → IsPositionOf x (entries (from_sorted {R = nat_cmp} (drop n es))) (Ok 0)
    → from_sorted {R = nat_cmp} (drop (n + 1) es) ≡ map_remove (from_sorted (drop n es)) x
first_out n x es s p =
    ap from_sorted (sym (first_gone n es)) ∙ remove_there (drop n es) (rising_drop n es s) _ refl x 0 p

-- `es[n..]`
pub tail_is : (n : ℕ) (es : List (ℕ × ℕ)) → take (length es - n) (drop n es) ≡ drop n es
tail_is n es = take_all (length es - n) (drop n es) (omega (arith, length-drop n es))

-- one entry more is laid over
pub laid_next : (zeros : Bool) (m : Multiset) (es : List (ℕ × ℕ)) (i : ℕ) (d : ℕ × ℕ) → i < length es
    → laid_by zeros m (take (i + 1) es) ≡ with_number zeros (laid_by zeros m (take i es)) (get_or es i d).0 (get_or es i d).1
laid_next zeros m es i d lt =
    let next : i + 1 ≡ suc i = omega arith in
    ap (λ k. laid_by zeros m (take k es)) next ∙ ap (laid_by zeros m) (take-suc es i d lt)
    ∙ fold-append (λ n e. with_number zeros n e.0 e.1) m (take i es) (get_or es i d ∷ [])
