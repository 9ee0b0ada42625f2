-- Things with a mark each, put into an order of their marks.
-- Where whatever is counted in two lists is the same, the first mark of the order is among the things' marks, since there is one more of it
-- than none; what has that mark goes first, and what is counted in the others is still the same. Marks are distinguished by their codes.
use Rattle.std.proofs.Common.{◌≡◌, ℕ, ◌+◌, ◌<◌, Bool, true, false, cond, eqb, List, [], ◌∷◌, ◌++◌, inl, inr, refl, sym, ◌∙◌}
use Rattle.std.proofs.Common.{ap, subst, arith}
use Rattle.std.specs.Prelude.{◌&&◌, map}
use Rattle.std.specs.Coded.{Coded}
use Rattle.std.specs.List.{sum_by}
use Rattle.std.specs.List.Sorted.{IsPermutation}
use Rattle.std.proofs.lemmas.Bool.{cases_Bool, cond-true, cond-false, and_parts}
use Rattle.std.proofs.lemmas.List.Sums.{sum_by-cons}
use Rattle.std.proofs.lemmas.List.Sorted.{IsPermutation-cons, IsPermutation-middle, IsPermutation-refl, IsPermutation-trans}
use Rattle.std.proofs.lemmas.Bool.Decides.{nat_tests}
use base.Stored.{Gv, gnil, gnum, gcons}

-- ---- codes distinguish

same_code : Gv → Gv → Bool
same_code gnil gnil = true
same_code (gnum n) (gnum m) = eqb n m
same_code (gcons a b) (gcons c d) = same_code a c && same_code b d
same_code x y = false

same_number : (n m : ℕ) → eqb n m ≡ true → n ≡ m
same_number n m h = grind (arith, nat_tests)

number_self : (n : ℕ) → eqb n n ≡ true
number_self n = grind (arith, nat_tests)

none_true : false ≡ true → ⊥
none_true e = cc

is_code : (x y : Gv) → same_code x y ≡ true → x ≡ y
unfolding same_code
is_code gnil gnil h = refl
is_code (gnum n) (gnum m) h = ap gnum (same_number n m h)
is_code (gcons a b) (gcons c d) h =
    let each = and_parts (same_code a c) (same_code b d) h in λ i. gcons (is_code a c each.0 i) (is_code b d each.1 i)
is_code x y h = absurd (none_true h)

code_self : (x : Gv) → same_code x x ≡ true
unfolding same_code
code_self gnil = refl
code_self (gnum n) = number_self n
code_self (gcons a b) = ap (λ t. t && same_code b b) (code_self a) ∙ code_self b

module _ {B : Type 0} (c : Coded B) where
  -- one for each that is b
  counts : B → B → ℕ
  counts b x = cond (same_code (c.code b) (c.code x)) 1 0

  counts_self : (b : B) → counts b b ≡ 1
  unfolding counts
  counts_self b = cond-true (same_code (c.code b) (c.code b)) 1 0 (code_self (c.code b))

  uncounted : (b y : B) → same_code (c.code b) (c.code y) ≡ false → counts b y ≡ 0
  unfolding counts
  uncounted b y e = cond-false (same_code (c.code b) (c.code y)) 1 0 e

  module _ {A : Type 0} (f : A → B) where
    -- a thing whose mark is b, and those before and after it
    record IsAmong (b : B) (xs : List A) : Type 0 where
      before : List A
      thing : A
      behind : List A
      is : xs ≡ before ++ thing ∷ behind
      marked : f thing ≡ b

    among : (b : B) (xs : List A) → 0 < sum_by (counts b) (map f xs) → IsAmong b xs
    among b [] some = absurd (omega (arith, some))
    among b (x ∷ xs) some =
        elim (cases_Bool (same_code (c.code b) (c.code (f x)))) [
          | inl same ↦ record {
            before = [];
            thing = x;
            behind = xs;
            is = refl;
            marked = sym (c.inj b (f x) (is_code (c.code b) (c.code (f x)) same));
          }
          | inr apart ↦
              let none : counts b (f x) ≡ 0 = uncounted b (f x) apart in
              let all = sum_by-cons (counts b) (f x) (map f xs) in
              let rest : IsAmong b xs = among b xs (omega (arith, some, all, none)) in
              record {
                before = x ∷ rest.before;
                thing = rest.thing;
                behind = rest.behind;
                is = ap (λ (ys : List A). x ∷ ys) rest.is;
                marked = rest.marked;
              }
        ]

    -- what is counted in the marks of the others
    without : (h : B → ℕ) (xs ys : List A) (x : A)
        → sum_by h (map f (xs ++ x ∷ ys)) ≡ h (f x) + sum_by h (map f (xs ++ ys))
    without h [] ys x = sum_by-cons h (f x) (map f ys)
    without h (z ∷ xs) ys x =
        let all = sum_by-cons h (f z) (map f (xs ++ x ∷ ys)) in
        let rest = without h xs ys x in
        let others = sum_by-cons h (f z) (map f (xs ++ ys)) in
        omega (arith, all, rest, others)

    -- the things in an order of their marks
    pub record Arranged (xs : List A) (order : List B) : Type 0 where
      pub arranged : List A
      pub same : IsPermutation xs arranged
      pub are : map f arranged ≡ order

    none_left : (xs : List A) → sum_by (λ b. 1) (map f xs) ≡ sum_by (λ (b : B). 1) [] → xs ≡ []
    none_left [] e = refl
    none_left (x ∷ xs) e = (let all = sum_by-cons (λ b. 1) (f x) (map f xs) in absurd (omega (arith, all, e)))

    pub arrange : (order : List B) (xs : List A) → ((h : B → ℕ) → sum_by h (map f xs) ≡ sum_by h order) → Arranged xs order
    arrange [] xs same =
        record { arranged = []; same = subst (IsPermutation xs) (none_left xs (same (λ b. 1))) (IsPermutation-refl xs); are = refl }
    arrange (b ∷ bs) xs same =
        let here = sum_by-cons (counts b) b bs in
        let one = counts_self b in
        let all = same (counts b) in
        let at : IsAmong b xs = among b xs (omega (arith, here, one, all)) in
        let others = at.before ++ at.behind in
        let rest : Arranged others bs = arrange bs others (λ h.
        let found = ap (λ ys. sum_by h (map f ys)) at.is in
        let less = without h at.before at.behind at.thing in
        let whole = same h in
        let first = sum_by-cons h b bs in
        let marked = ap h at.marked in
        omega (arith, found, less, whole, first, marked)) in
        record {
          arranged = at.thing ∷ rest.arranged;
          same = IsPermutation-trans xs (at.thing ∷ others) (at.thing ∷ rest.arranged)
              (subst (λ ys. IsPermutation ys (at.thing ∷ others)) (sym at.is) (IsPermutation-middle at.before at.thing at.behind))
              (IsPermutation-cons at.thing others rest.arranged rest.same);
          are = λ i. at.marked i ∷ rest.are i;
        }
