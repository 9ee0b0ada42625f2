-- Room for changes, stripe by stripe.
--
-- The changes are gone through twice. First each takes a place of its stripe: so far, what is free in a stripe and what has been taken
-- there are together no less than what was free, and all that is free and all that has been taken fit into the list. So where there was
-- room for all changes, a place is free for the next one. Then each gives its place back, and as many are free in a stripe as were left
-- there and have been given back: as many as changes fall on it, at least.
use Rattle.std.proofs.Common.{◌≡◌, ◌≢◌, ℕ, zero, suc, ◌+◌, ◌-◌, ◌<◌, ◌≤◌, true, false}
use Rattle.std.proofs.Common.{cond, nat_eq, List, [], ◌∷◌, length, get_or, set, sum, sum_by}
use Rattle.std.proofs.Common.{drop, take, is_err, IsOk, OnOk, Result, Ok, Err, Option, Some, None, refl, sym, ap, subst, ◌∙◌, arith}
use Rattle.std.proofs.lemmas.Bool.Decides.{nat_tests}
use Rattle.std.proofs.lemmas.List.{get_or-set_same, get_or-set_other}
use Rattle.std.proofs.lemmas.List.Sums.{get_or-le-sum_by, sum_by-cons, sum_by-drop_more, sum_by-set, sum_by-take-le, sum_by_more}
use Rattle.std.proofs.lemmas.Option.{none-some, same_Some}
use Rattle.conflict.specs.declared.change.Change.{Change}
use Rattle.conflict.specs.declared.change.Change.TheVariants as change
use Rattle.conflict.specs.Places.{mod_below}
use Rattle.base_pq.specs.Room.{HasRoom, LeavesRoom, fallen, falling, room_taken, some_room, stripe_of}

pub ok_of : {T E P : Type 0} (r : Result T E) → is_err r ≡ false → OnOk r P → P
ok_of (Ok x) fine h = h
ok_of (Err e) fine h = cc

pub not_ok : {T E : Type 0} (r : Result T E) → is_err r ≡ true → IsOk r → ⊥
not_ok (Ok x) failed h = cc
not_ok (Err e) failed h = cc

-- ---- the places of one stripe
pub place_here : (i j : ℕ) → i ≡ j → room_taken i (Some j) ≡ 1
place_here i j is = let t : nat_eq j i ≡ true = grind (arith, nat_tests) in ap (λ b. cond b 1 0) t

pub place_else : (i j : ℕ) → i ≢ j → room_taken i (Some j) ≡ 0
place_else i j ne = let t : nat_eq j i ≡ false = grind (arith, nat_tests) in ap (λ b. cond b 1 0) t

-- a stripe has one place fewer
pub one_less : (xs : List ℕ) (at i : ℕ) → at < length xs → 0 < get_or xs at 0
    → get_or xs i 0 ≤ get_or (set xs at (get_or xs at 0 - 1)) i 0 + room_taken i (Some at)
one_less xs at i inside some =
    elim (nat_eq i at) as (λ b. nat_eq i at ≡ b → get_or xs i 0 ≤ get_or (set xs at (get_or xs at 0 - 1)) i 0 + room_taken i (Some at)) [
      | true ↦ λ t.
          let is : i ≡ at = grind (arith, nat_tests) in
          let was = ap (λ k. get_or xs k 0) is in
          let now = ap (λ k. get_or (set xs at (get_or xs at 0 - 1)) k 0) is ∙ get_or-set_same xs at (get_or xs at 0 - 1) 0 inside in
          let one = place_here i at is in
          omega (arith, was, now, one, some)
      | false ↦ λ t.
          let ne : i ≢ at = grind (arith, nat_tests) in
          let same = get_or-set_other xs at i (get_or xs at 0 - 1) 0 ne in
          omega (arith, same)
    ] refl

-- a stripe has one place more
one_more : (xs : List ℕ) (at i : ℕ) → at < length xs
    → get_or (set xs at (get_or xs at 0 + 1)) i 0 ≡ get_or xs i 0 + room_taken i (Some at)
one_more xs at i inside =
    elim (nat_eq i at) as (λ b. nat_eq i at ≡ b → get_or (set xs at (get_or xs at 0 + 1)) i 0 ≡ get_or xs i 0 + room_taken i (Some at)) [
      | true ↦ λ t.
          let is : i ≡ at = grind (arith, nat_tests) in
          let was = ap (λ k. get_or xs k 0) is in
          let now = ap (λ k. get_or (set xs at (get_or xs at 0 + 1)) k 0) is ∙ get_or-set_same xs at (get_or xs at 0 + 1) 0 inside in
          let one = place_here i at is in
          omega (arith, was, now, one)
      | false ↦ λ t.
          let ne : i ≢ at = grind (arith, nat_tests) in
          let same = get_or-set_other xs at i (get_or xs at 0 + 1) 0 ne in
          let none = place_else i at ne in
          omega (arith, same, none)
    ] refl

-- ---- the places of all stripes
pub free_inside : (xs : List ℕ) (i : ℕ) → 0 < get_or xs i 0 → i < length xs
free_inside [] i some = absurd (omega (arith, some))
free_inside (x ∷ xs) zero some = omega arith
free_inside (x ∷ xs) (suc i) some = let rest = free_inside xs i some in omega (arith, rest)

pub free_in_all : (xs : List ℕ) (i : ℕ) → i < length xs → get_or xs i 0 ≤ sum xs
free_in_all xs i inside = get_or-le-sum_by (λ x. x) xs i 0 inside

pub sum_less : (xs : List ℕ) (at : ℕ) → at < length xs → 0 < get_or xs at 0 → sum (set xs at (get_or xs at 0 - 1)) + 1 ≡ sum xs
sum_less xs at inside some =
    let all = sum_by-set (λ x. x) xs at (get_or xs at 0 - 1) 0 inside in omega (arith, all, some)

sum_more : (xs : List ℕ) (at : ℕ) → at < length xs → sum (set xs at (get_or xs at 0 + 1)) ≡ sum xs + 1
sum_more xs at inside = let all = sum_by-set (λ x. x) xs at (get_or xs at 0 + 1) 0 inside in omega (arith, all)

module _ {V : Type 0} where
  -- ---- changes
  pub stripe_inside : (n j : ℕ) (c : Change V) → 0 < n → stripe_of n c ≡ Some j → j < n
  stripe_inside n j (change.Add x) pos e = subst (λ i. i < n) (same_Some _ _ e) (mod_below x n pos)
  stripe_inside n j (change.Take x) pos e = subst (λ i. i < n) (same_Some _ _ e) (mod_below x n pos)
  stripe_inside n j c pos e = absurd (none-some j e)

  pub room_of_one : (n j : ℕ) (room : List ℕ) (c : Change V) → HasRoom n room (c ∷ []) → stripe_of n c ≡ Some j → j < n
      → 0 < get_or room j 0
  room_of_one n j room c h some inside =
      let all = h j inside in
      let one = ap (room_taken j) some ∙ place_here j j refl in
      omega (arith, all, one)

  pub room_first : (n : ℕ) (room : List ℕ) (c : Change V) (cs : List (Change V)) → HasRoom n room (c ∷ cs) → HasRoom n room (c ∷ [])
  room_first n room c cs h i lt = let all = h i lt in omega (arith, all)

  -- a change that took a place in its stripe at most leaves the places of the others
  pub room_left : (n : ℕ) (before now : List ℕ) (c : Change V)
      → ((i : ℕ) → get_or before i 0 ≤ get_or now i 0 + room_taken i (stripe_of n c)) → LeavesRoom n (c ∷ []) before now
  room_left n before now c took more h i lt = let a = h i lt in let b = took i in omega (arith, a, b)

  -- ---- changes one after another
  falling_sum : (n i : ℕ) (cs : List (Change V)) → falling n i cs ≡ sum_by (λ c. room_taken i (stripe_of n c)) cs
  falling_sum n i [] = refl
  falling_sum n i (c ∷ cs) =
      ap (λ k. room_taken i (stripe_of n c) + k) (falling_sum n i cs) ∙ sym (sum_by-cons (λ c. room_taken i (stripe_of n c)) c cs)

  falls_more : (n i k : ℕ) (cs : List (Change V)) (c : Change V) (o : Option ℕ) → k < length cs → get_or cs k c ≡ c → stripe_of n c ≡ o
      → falling n i (take (k + 1) cs) ≡ falling n i (take k cs) + room_taken i o
  falls_more n i k cs c o low at some =
      falling_sum n i (take (k + 1) cs) ∙ sum_by_more (λ c. room_taken i (stripe_of n c)) cs k c low
      ∙ (λ j. sym (falling_sum n i (take k cs)) j + room_taken i ((ap (stripe_of n) at ∙ some) j))

  pub falls_within : (n i k : ℕ) (cs : List (Change V)) → falling n i (take k cs) ≤ falling n i cs
  falls_within n i k cs =
      let part = falling_sum n i (take k cs) in
      let all = falling_sum n i cs in
      let within = sum_by-take-le (λ c. room_taken i (stripe_of n c)) cs k in
      omega (arith, part, all, within)

  fallen_more : (n k : ℕ) (cs : List (Change V)) (c : Change V) (o : Option ℕ) → k < length cs → get_or cs k c ≡ c → stripe_of n c ≡ o
      → fallen n (take (k + 1) cs) ≡ fallen n (take k cs) + some_room o
  fallen_more n k cs c o low at some =
      sum_by_more (λ c. some_room (stripe_of n c)) cs k c low
      ∙ ap (λ p. fallen n (take k cs) + some_room p) (ap (stripe_of n) at ∙ some)

  fallen_left : (n k : ℕ) (cs : List (Change V)) (c : Change V) (o : Option ℕ) → k < length cs → get_or cs k c ≡ c → stripe_of n c ≡ o
      → fallen n (drop k cs) ≡ some_room o + fallen n (drop (k + 1) cs)
  fallen_left n k cs c o low at some =
      sum_by-drop_more (λ c. some_room (stripe_of n c)) cs k c low
      ∙ ap (λ p. some_room p + fallen n (drop (k + 1) cs)) (ap (stripe_of n) at ∙ some)

  -- ---- places taken by the first k changes
  pub record IsTaken (n k : ℕ) (all : List (Change V)) (before free : List ℕ) (held : ℕ) : Type 0 where
    pub fits : sum free + fallen n (take k all) ≤ held
    pub kept : (i : ℕ) → get_or before i 0 ≤ get_or free i 0 + falling n i (take k all)

  pub taken_first : (n : ℕ) (all : List (Change V)) (free : List ℕ) (held : ℕ) → sum free ≤ held → IsTaken n 0 all free free held
  taken_first n all free held fits = record { fits = omega (arith, fits); kept = λ i. omega arith }

  pub taken_none : (n k : ℕ) (all : List (Change V)) (before free : List ℕ) (held : ℕ) (c : Change V) → k < length all → get_or all k c ≡ c
      → stripe_of n c ≡ None → IsTaken n k all before free held → IsTaken n (k + 1) all before free held
  taken_none n k all before free held c low at none h = record {
    fits = (let more = fallen_more n k all c None low at none in let was = h.fits in omega (arith, more, was));
    kept = λ i. (let more = falls_more n i k all c None low at none in let was = h.kept i in omega (arith, more, was));
  }

  pub taken_some : (n k j : ℕ) (all : List (Change V)) (before free now : List ℕ) (held then : ℕ) (c : Change V) → k < length all
      → get_or all k c ≡ c → stripe_of n c ≡ Some j → sum now + held + 1 ≤ sum free + then
      → ((i : ℕ) → get_or free i 0 ≤ get_or now i 0 + room_taken i (Some j)) → IsTaken n k all before free held
      → IsTaken n (k + 1) all before now then
  taken_some n k j all before free now held then c low at some one left h = record {
    fits = (let more = fallen_more n k all c (Some j) low at some in let was = h.fits in omega (arith, more, was, one));
    kept = λ i.
        (let more = falls_more n i k all c (Some j) low at some in
        let was = h.kept i in
        let here = left i in
        omega (arith, more, was, here));
  }

  -- where there was room for all changes, there is a place for the next one
  pub taken_next : (n k j : ℕ) (all : List (Change V)) (before free : List ℕ) (held : ℕ) (c : Change V) → k < length all
      → get_or all k c ≡ c
      → stripe_of n c ≡ Some j → j < n → HasRoom n before all → IsTaken n k all before free held → 0 < get_or free j 0
  taken_next n k j all before free held c low at some inside enough h =
      let more = falls_more n j k all c (Some j) low at some in
      let one = place_here j j refl in
      let within = falls_within n j (k + 1) all in
      let room = enough j inside in
      let was = h.kept j in
      omega (arith, more, one, within, room, was)

  -- ---- places given back by the first k changes
  pub record IsGiven (n k : ℕ) (all : List (Change V)) (before free : List ℕ) (held : ℕ) : Type 0 where
    pub fits : sum free + fallen n (drop k all) ≤ held
    pub given : (i : ℕ) → get_or free i 0 ≡ get_or before i 0 + falling n i (take k all)

  pub given_first : (n : ℕ) (all : List (Change V)) (free : List ℕ) (held : ℕ) → sum free + fallen n all ≤ held
      → IsGiven n 0 all free free held
  given_first n all free held fits = record { fits = fits; given = λ i. omega arith }

  pub given_none : (n k : ℕ) (all : List (Change V)) (before free : List ℕ) (held : ℕ) (c : Change V) → k < length all → get_or all k c ≡ c
      → stripe_of n c ≡ None → IsGiven n k all before free held → IsGiven n (k + 1) all before free held
  given_none n k all before free held c low at none h = record {
    fits = (let less = fallen_left n k all c None low at none in let was = h.fits in omega (arith, less, was));
    given = λ i. (let more = falls_more n i k all c None low at none in let was = h.given i in omega (arith, more, was));
  }

  pub given_some : (n k j : ℕ) (all : List (Change V)) (before free : List ℕ) (held : ℕ) (c : Change V) → k < length all
      → get_or all k c ≡ c
      → stripe_of n c ≡ Some j → j < length free → IsGiven n k all before free held
      → IsGiven n (k + 1) all before (set free j (get_or free j 0 + 1)) held
  given_some n k j all before free held c low at some inside h = record {
    fits =
        (let less = fallen_left n k all c (Some j) low at some in
        let was = h.fits in
        let one = sum_more free j inside in
        omega (arith, less, was, one));
    given = λ i.
        (let more = falls_more n i k all c (Some j) low at some in
        let was = h.given i in
        let one = one_more free j i inside in
        omega (arith, more, was, one));
  }

  -- a stripe to which a place is given back has fewer than are held
  pub given_next : (n k j : ℕ) (all : List (Change V)) (before free : List ℕ) (held : ℕ) (c : Change V) → k < length all
      → get_or all k c ≡ c
      → stripe_of n c ≡ Some j → j < length free → IsGiven n k all before free held → get_or free j 0 < held
  given_next n k j all before free held c low at some inside h =
      let less = fallen_left n k all c (Some j) low at some in
      let was = h.fits in
      let few = free_in_all free j inside in
      omega (arith, less, was, few)
