-- The collections with a written location, from the last location to the first: a location's collection is not above those of the locations
-- after it, so it is new exactly where it is not the first of them (`first_is`).
use Rattle.std.proofs.Common.{◌≡◌, ℕ, zero, suc, drop, get_or, ◌+◌, ◌<◌, ◌≤◌, cond, eqb, eqb-true, ltb, Bool, true, false, true≢false, not}
use Rattle.std.proofs.Common.{◌||◌, filter, Some, None, List, [], ◌∷◌, length, refl, sym, ap, subst, ◌∙◌, arith, ne_eqb}
use Rattle.std.proofs.lemmas.Bool.Decides.{nat_tests}
use Rattle.std.proofs.lemmas.Bool.{cond-false}
use Rattle.std.proofs.lemmas.List.{drop_more}
use Rattle.std.specs.List.{All}
use Rattle.std.proofs.lemmas.List.Elements.{All-cons, All-nil}
use Rattle.tx_sets.specs.Entries.{Entries, IsRising, locations}
use Rattle.tx_machine.specs.Content.{has}
use Rattle.replay_log.specs.Contents.{Block, end_of, home_of, is_plain, size}
use Rattle.replay_log.specs.Worlds.{all_of, distinct, with_new}
use Rattle.actor_parts.specs.Blocks.{BlocksView, home_in, homes_in, is_first, with_home}

pub not_none : (n : ℕ) → eqb (suc n) 0 ≡ true → ⊥
not_none n len =
    let e : suc n ≡ 0 = eqb-true (suc n) 0 len in
    omega arith

-- none of these is below k, and each is above those before it
abbrev AreFrom : ℕ → List ℕ → Type 0
AreFrom k [] = Unit {0}
AreFrom k (x ∷ xs) = (k ≤ x) × AreFrom k xs

abbrev AreStrict : List ℕ → Type 0
AreStrict [] = Unit {0}
AreStrict (x ∷ xs) = AreFrom (suc x) xs × AreStrict xs

abbrev AreSorted : List ℕ → Type 0
AreSorted [] = Unit {0}
AreSorted (x ∷ xs) = AreFrom x xs × AreSorted xs

next_up : (k x : ℕ) → k ≤ x → eqb k x ≡ false → suc k ≤ x
next_up k x le e = grind (arith, nat_tests)

still_not_below : (l m e : ℕ) → l ≤ m → ltb l e ≡ false → ltb m e ≡ false
still_not_below l m e le f = grind (arith, nat_tests)

weaker : (k j : ℕ) (xs : List ℕ) → k ≤ j → AreFrom j xs → AreFrom k xs
weaker k j [] le h = tt
weaker k j (x ∷ xs) le h = (let g = h.0 in omega arith, weaker k j xs le h.1)

new_from : (k x : ℕ) (xs : List ℕ) → k ≤ x → AreFrom k xs → AreFrom k (with_new x xs)
new_from k x xs le h = elim (has xs x) as (λ b. AreFrom k (cond b xs (x ∷ xs))) [ true ↦ h | false ↦ (le, h) ]

distinct_from : (k : ℕ) (xs : List ℕ) → AreFrom k xs → AreFrom k (distinct xs)
distinct_from k [] h = tt
distinct_from k (x ∷ xs) h = new_from k x (distinct xs) h.0 (distinct_from k xs h.1)

not_in : (k : ℕ) (xs : List ℕ) → AreFrom (suc k) xs → has xs k ≡ false
not_in k [] h = refl
not_in k (x ∷ xs) h =
    let lt = h.0 in
    let ne : k ≡ x → ⊥ = λ e. omega arith in
    cond-false (eqb k x) true (has xs k) (ne_eqb k x ne) ∙ not_in k xs h.1

first_is : (k : ℕ) (xs : List ℕ) → AreFrom k xs → AreStrict xs → has xs k ≡ is_first k xs
first_is k [] f s = refl
first_is k (x ∷ xs) f s =
    let le = f.0 in
    elim (eqb k x) as (λ b. cond b true (has xs k) ≡ b) [ true ↦ refl | false ↦ not_in k xs (weaker (suc k) (suc x) xs (omega arith) s.0) ]

above_first : (k : ℕ) (xs : List ℕ) → AreFrom k xs → AreStrict xs → is_first k xs ≡ false → AreFrom (suc k) xs
above_first k [] f s e = tt
above_first k (x ∷ xs) f s e =
    let le = f.0 in
    let lt : suc k ≤ x = next_up k x le e in
    (lt, weaker (suc k) (suc x) xs (omega arith) s.0)

new_strict : (k : ℕ) (xs : List ℕ) → AreFrom k xs → AreStrict xs → AreStrict (with_new k xs)
new_strict k xs f s =
    elim (has xs k) as (λ b. has xs k ≡ b → AreStrict (cond b xs (k ∷ xs))) [
      | true ↦ λ e. s
      | false ↦ λ e. (above_first k xs f s (sym (first_is k xs f s) ∙ e), s)
    ] refl

distinct_strict : (xs : List ℕ) → AreSorted xs → AreStrict (distinct xs)
distinct_strict [] h = tt
distinct_strict (x ∷ xs) h = new_strict x (distinct xs) (distinct_from x xs h.0) (distinct_strict xs h.1)

home_rises : (w : ℕ) (bs : List Block) (l m : ℕ) → l ≤ m → home_of w bs l ≤ home_of w bs m
home_rises w [] l m le = omega arith
home_rises w (b ∷ bs) l m le =
    let here = home_of (w + size b) bs l in
    let there = home_of (w + size b) bs m in
    let rest : here ≤ there = home_rises (w + size b) bs l m le in
    elim (ltb l (w + size b)) as (λ t. ltb l (w + size b) ≡ t → cond t 0 (suc here) ≤ cond (ltb m (w + size b)) 0 (suc there)) [
      | true ↦ λ e. omega arith
      | false ↦ λ e.
          let f : ltb m (w + size b) ≡ false = still_not_below l m (w + size b) le e in
          subst (λ (t : Bool). suc here ≤ cond t 0 (suc there)) (sym f) (omega arith)
    ] refl

-- the collections of these locations, each as often as it comes
abbrev homes : ℕ → List Block → Entries → List ℕ
homes w bs es = all_of (home_of w bs) (filter (λ l. not (is_plain w bs l)) (locations es))

homes_from : (w : ℕ) (bs : List Block) (l : ℕ) (es : Entries) → All (λ (x : ℕ × ℕ). l < x.0) es → AreFrom (home_of w bs l) (homes w bs es)
unfolding locations
homes_from w bs l [] h = tt
homes_from w bs l (e ∷ es) h =
    let lt : l < e.0 = h 0 e (omega arith) in
    let rest = homes_from w bs l es (λ k d lt. h (suc k) d (omega arith)) in
    elim (not (is_plain w bs e.0)) as
    (λ b. AreFrom (home_of w bs l)
    (all_of (home_of w bs)
    (cond b (e.0 ∷ filter (λ l. not (is_plain w bs l)) (locations es)) (filter (λ l. not (is_plain w bs l)) (locations es))))) [
      | true ↦ (home_rises w bs l e.0 (omega arith), rest)
      | false ↦ rest
    ]

homes_sorted : (w : ℕ) (bs : List Block) (es : Entries) → IsRising es → AreSorted (homes w bs es)
unfolding locations
homes_sorted w bs [] h = tt
homes_sorted w bs (e ∷ es) h =
    let rest = homes_sorted w bs es h.1 in
    elim (not (is_plain w bs e.0)) as
    (λ b. AreSorted (all_of (home_of w bs)
    (cond b (e.0 ∷ filter (λ l. not (is_plain w bs l)) (locations es)) (filter (λ l. not (is_plain w bs l)) (locations es))))) [
      | true ↦ (homes_from w bs e.0 es h.0, rest)
      | false ↦ rest
    ]

-- one location more, below the others
pub one_more : (v : BlocksView) (e : ℕ × ℕ) (es : Entries) → IsRising (e ∷ es)
    → with_home (home_in v e.0) (homes_in v es) ≡ homes_in v (e ∷ es)
unfolding locations
one_more v e es h =
    let hs = homes v.words v.blocks es in
    let k = home_of v.words v.blocks e.0 in
    let from = distinct_from k hs (homes_from v.words v.blocks e.0 es h.0) in
    let strict = distinct_strict hs (homes_sorted v.words v.blocks es h.1) in
    elim (is_plain v.words v.blocks e.0) as (λ b. with_home (cond b None (Some k)) (distinct hs)
    ≡ distinct (all_of (home_of v.words v.blocks)
    (cond (not b) (e.0 ∷ filter (λ l. not (is_plain v.words v.blocks l)) (locations es))
    (filter (λ l. not (is_plain v.words v.blocks l)) (locations es))))) [
      | true ↦ refl
      | false ↦ ap (λ (b : Bool). cond b (distinct hs) (k ∷ distinct hs)) (sym (first_is k (distinct hs) from strict))
    ]

rising_drop : (i : ℕ) (es : Entries) → IsRising es → IsRising (drop i es)
rising_drop zero es h = h
rising_drop (suc i) [] h = h
rising_drop (suc i) (e ∷ es) h = rising_drop i es h.1

-- after the last of them there are none
pub no_homes : (v : BlocksView) (es : Entries) → [] ≡ homes_in v (drop (length es) es)
unfolding locations
no_homes v [] = refl
no_homes v (e ∷ es) = no_homes v es

-- the same at a place of the whole list
pub more_homes : (v : BlocksView) (es : Entries) (i : ℕ) (d : ℕ × ℕ) → IsRising es → i < length es
    → with_home (home_in v (get_or es i d).0) (homes_in v (drop (i + 1) es)) ≡ homes_in v (drop i es)
more_homes v es i d h lt =
    let e = drop_more es i d lt in
    one_more v (get_or es i d) (drop (i + 1) es) (subst IsRising e (rising_drop i es h)) ∙ ap (homes_in v) (sym e)

pub first_there : (k r : ℕ) (xs : List ℕ) → eqb (length xs) 0 ≡ false → r ≡ get_or xs 0 r → eqb k r ≡ is_first k xs
first_there k r [] some e = absurd (true≢false some)
first_there k r (x ∷ xs) some e = ap (eqb k) e

pub first_none : (k : ℕ) (xs : List ℕ) → eqb (length xs) 0 ≡ true → false ≡ is_first k xs
first_none k [] none = refl
first_none k (x ∷ xs) none = absurd (not_none (length xs) none)

-- ---- a location's collection is one of those that there are
not_false : (b : Bool) → not b ≡ false → b ≡ true
not_false true e = refl
not_false false e = absurd (true≢false e)

home_within : (w : ℕ) (bs : List Block) (l : ℕ) → ltb l (end_of w bs) ≡ true → ltb l w ≡ false → home_of w bs l < length bs
home_within w [] l e f = absurd (true≢false (sym e ∙ f))
home_within w (b ∷ bs) l e f =
    let here = home_of (w + size b) bs l in
    elim (ltb l (w + size b)) as (λ t. ltb l (w + size b) ≡ t → cond t 0 (suc here) < length (b ∷ bs)) [
      | true ↦ λ g. omega arith
      | false ↦ λ g.
          let h : here < length bs = home_within (w + size b) bs l e g in
          omega (arith, h)
    ] refl

home_below : (w : ℕ) (bs : List Block) (l : ℕ) → is_plain w bs l ≡ false → home_of w bs l < length bs
home_below w bs l e =
    elim (ltb l w) as (λ t. ltb l w ≡ t → (t || not (ltb l (end_of w bs))) ≡ false → home_of w bs l < length bs) [
      | true ↦ λ f h. absurd (true≢false h)
      | false ↦ λ f h. home_within w bs l (not_false (ltb l (end_of w bs)) h) f
    ] refl e

new_below : (n k : ℕ) (ks : List ℕ) → k < n → All (λ (i : ℕ). i < n) ks → All (λ (i : ℕ). i < n) (with_new k ks)
new_below n k ks lt h =
    elim (has ks k) as (λ b. All (λ (i : ℕ). i < n) (cond b ks (k ∷ ks))) [
      | true ↦ h
      | false ↦ All-cons (λ (i : ℕ). i < n) k ks lt h
    ]

pub homes_below : (v : BlocksView) (es : Entries) → All (λ (k : ℕ). k < length v.blocks) (homes_in v es)
unfolding locations
homes_below v [] = All-nil (λ (k : ℕ). k < length v.blocks)
homes_below v (e ∷ es) =
    let n = length v.blocks in
    let hs = homes_in v es in
    let rest : All (λ (k : ℕ). k < n) hs = homes_below v es in
    elim (is_plain v.words v.blocks e.0) as (λ b. is_plain v.words v.blocks e.0 ≡ b
    → All (λ (k : ℕ). k < n) (distinct (all_of (home_of v.words v.blocks)
    (cond (not b) (e.0 ∷ filter (λ l. not (is_plain v.words v.blocks l)) (locations es))
    (filter (λ l. not (is_plain v.words v.blocks l)) (locations es)))))) [
      | true ↦ λ f. rest
      | false ↦ λ f. new_below n (home_of v.words v.blocks e.0) hs (home_below v.words v.blocks e.0 f) rest
    ] refl
