-- Weights of records, summed by actors.
--
-- If the weights of the records of these actors, taken one actor after another, sum to no more than those of all records, then no actor
-- that has a record stands twice among them.
use Rattle.std.proofs.Common.{◌≡◌, ℕ, zero, suc, ◌+◌, ◌≤◌, true, false, List, [], ◌∷◌, refl, sym, ◌∙◌, arith}
use Rattle.std.proofs.Common.{⊎_elim, eqb-true, eq-eqb}
use Rattle.std.specs.Prelude.{map, ◌==◌, if◌then◌else◌}
use Rattle.std.proofs.lemmas.Bool.{cases_Bool, cond-false, cond-true, cond_both}
use mathlib.Core.Option.{some}
use lib.ListN.{get_elem?}
use Rattle.tx_machine.specs.Content.{has}
use Rattle.shared_table.specs.Shown.{total}
use Rattle.shared_table.proofs.Numbers.{total_part}

module _ {A : Type 0} where
  pub total_same : (f g : A → ℕ) (l : List A) → ((i : ℕ) (x : A) → get_elem? l i ≡ some x → f x ≡ g x) → total f l ≡ total g l
  total_same f g [] same = refl
  total_same f g (x ∷ xs) same =
      let e = same 0 x refl in
      let r = total_same f g xs (λ i y at. same (suc i) y at) in omega arith

  total_plus : (f g : A → ℕ) (l : List A) → total (λ x. f x + g x) l ≡ total f l + total g l
  total_plus f g [] = refl
  total_plus f g (x ∷ xs) = let r = total_plus f g xs in omega arith

  total_zero : (l : List A) → total (λ x. 0) l ≡ 0
  total_zero [] = refl
  total_zero (x ∷ xs) = let r = total_zero xs in omega arith

-- a number where these two are one, else 0
abbrev pub where_same : ℕ → ℕ → ℕ → ℕ
where_same n a b = if a == b then n else 0

here : (n a b : ℕ) → a ≡ b → where_same n a b ≡ n
here n a b e = cond-true {A = ℕ} (a == b) n 0 (eq-eqb a b e)

not_here : (n a b : ℕ) → (a == b) ≡ false → where_same n a b ≡ 0
not_here n a b f = cond-false {A = ℕ} (a == b) n 0 f

module _ {A B : Type 0} where
  -- two sums, taken in the other order
  pub total_swap : (f : A → B → ℕ) (xs : List A) (ys : List B) → total (λ x. total (f x) ys) xs ≡ total (λ y. total (λ x. f x y) xs) ys
  total_swap f xs [] = total_zero xs
  total_swap f xs (y ∷ ys) =
      let a = total_plus (λ x. f x y) (λ x. total (f x) ys) xs in
      let b = total_swap f xs ys in omega arith

-- ---- how often actor a stands among these
module _ {A : Type 0} (key : A → ℕ) where
  none_there : (n a : ℕ) (ps : List A) → total (λ p. where_same 1 a (key p)) ps ≡ 0 → total (λ p. where_same n a (key p)) ps ≡ 0
  none_there n a [] e = refl
  none_there n a (p ∷ ps) e = ⊎_elim
      (λ (t : (a == key p) ≡ true). absurd (let one = here 1 a (key p) (eqb-true a (key p) t) in omega (arith, e, one)))
      (λ (f : (a == key p) ≡ false). let r = none_there n a ps (let z = not_here 1 a (key p) f in omega (arith, e, z)) in
      let z = not_here n a (key p) f in omega arith)
      (cases_Bool (a == key p))

  -- once at most, so its number counts once, or not at all
  pub once : (n a : ℕ) (ps : List A) → total (λ p. where_same 1 a (key p)) ps ≤ 1
      → total (λ p. where_same n a (key p)) ps ≡ (if has (map key ps) a then n else 0)
  once n a [] le = refl
  once n a (p ∷ ps) le = ⊎_elim
      (λ (t : (a == key p) ≡ true).
      let same = eqb-true a (key p) t in
      let one = here 1 a (key p) same in
      let all = here n a (key p) same in
      let rest = none_there n a ps (omega (arith, le, one)) in
      let is : has (map key (p ∷ ps)) a ≡ true = cond-true (a == key p) true (has (map key ps) a) t in
      let whole = cond-true {A = ℕ} (has (map key (p ∷ ps)) a) n 0 is in omega arith)
      (λ (f : (a == key p) ≡ false).
      let z = not_here 1 a (key p) f in
      let y = not_here n a (key p) f in
      let r = once n a ps (omega (arith, le, z)) in
      let is : has (map key (p ∷ ps)) a ≡ has (map key ps) a = cond-false (a == key p) true (has (map key ps) a) f in
      let same : (if has (map key (p ∷ ps)) a then n else 0) ≡ (if has (map key ps) a then n else 0) =
      (λ i. if is i then n else 0) in omega arith)
      (cases_Bool (a == key p))

  -- where the records of a count one each, one of a counts as often as a stands among these
  pub weighed : (a b : ℕ) (ps : List A) → total (λ p. where_same (where_same 1 b a) b (key p)) ps
      ≡ where_same (total (λ p. where_same 1 a (key p)) ps) b a
  weighed a b ps = ⊎_elim
      (λ (t : (b == a) ≡ true).
      let e = eqb-true b a t in
      (λ i. total (λ p. where_same (here 1 b a e i) (e i) (key p)) ps) ∙ sym (here (total (λ p. where_same 1 a (key p)) ps) b a e))
      (λ (f : (b == a) ≡ false).
      (λ i. total (λ p. where_same (not_here 1 b a f i) b (key p)) ps)
      ∙ (total_same (λ p. where_same 0 b (key p)) (λ p. 0) ps
      (λ i p at. cond_both {A = ℕ} (b == key p) 0 0 (λ z. z ≡ 0) (λ _. refl) (λ _. refl))
      ∙ (total_zero ps ∙ sym (not_here (total (λ p. where_same 1 a (key p)) ps) b a f))))
      (cases_Bool (b == a))

module _ {B : Type 0} where
  -- ---- each of these counts k times
  twice : (k a : ℕ) (key : B → ℕ) (rs : List B) → 2 ≤ k
      → total (λ r. where_same 1 (key r) a) rs + total (λ r. where_same 1 (key r) a) rs ≤ total (λ r. where_same k (key r) a) rs
  twice k a key [] le = omega arith
  twice k a key (r ∷ rs) le = ⊎_elim
      (λ (t : (key r == a) ≡ true).
      let same = eqb-true (key r) a t in
      let one = here 1 (key r) a same in
      let all = here k (key r) a same in
      let rest = twice k a key rs le in omega arith)
      (λ (f : (key r == a) ≡ false).
      let z = not_here 1 (key r) a f in
      let y = not_here k (key r) a f in
      let rest = twice k a key rs le in omega arith)
      (cases_Bool (key r == a))

  -- so, if they count no more than once, and there is one, k is 1 at most
  pub at_most_once : (k : ℕ) (key : B → ℕ) (rs : List B) (i : ℕ) (r : B) → get_elem? rs i ≡ some r
      → total (λ x. where_same k (key x) (key r)) rs ≤ total (λ x. where_same 1 (key x) (key r)) rs → k ≤ 1
  at_most_once k key rs i r at le =
      let part = total_part (λ x. where_same 1 (key x) (key r)) rs i r at in
      let one = here 1 (key r) (key r) refl in
      by k le
    where
      by : (k : ℕ) → total (λ x. where_same k (key x) (key r)) rs ≤ total (λ x. where_same 1 (key x) (key r)) rs → k ≤ 1
      by zero le = omega arith
      by (suc zero) le = omega arith
      by (suc (suc m)) le = absurd
          (let two = twice (suc (suc m)) (key r) key rs (omega arith) in
          let part = total_part (λ x. where_same 1 (key x) (key r)) rs i r at in
          let one = here 1 (key r) (key r) refl in omega (arith, le, two, part, one))
