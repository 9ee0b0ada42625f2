-- Sums over lists, and what stands in them. A sum in which one entry is replaced grows by what that entry grew, so what is said
-- by weights of all seats is arithmetic when one seat changes.
use Rattle.std.proofs.Common.{◌≡◌, ℕ, zero, suc, ◌+◌, ◌<◌, ◌≤◌, ◌≢◌, ◌⊎◌, inl, inr, ⊎_elim, List, [], ◌∷◌, ◌++◌, length, set, sym, refl, ap}
use Rattle.std.proofs.Common.{arith}
use Rattle.std.specs.Prelude.{map}
use mathlib.Core.Option.{some, some-injective, some-ne-none}
use lib.ListN.{get_elem?}
use Rattle.shared_table.specs.Shown.{total, tally}

module _ {A : Type 0} where
  pub total_set : (f : A → ℕ) (l : List A) (j : ℕ) (v w : A) → get_elem? l j ≡ some v → total f (set l j w) + f v ≡ total f l + f w
  total_set f [] j v w e = absurd (some-ne-none v (sym e))
  total_set f (x ∷ xs) zero v w e = let q : f x ≡ f v = ap f (some-injective x v e) in omega arith
  total_set f (x ∷ xs) (suc j) v w e = let r = total_set f xs j v w e in omega arith

  pub total_snoc : (f : A → ℕ) (l : List A) (w : A) → total f (l ++ w ∷ []) ≡ total f l + f w
  total_snoc f [] w = omega arith
  total_snoc f (x ∷ xs) w = let r = total_snoc f xs w in omega arith

  pub total_part : (f : A → ℕ) (l : List A) (j : ℕ) (v : A) → get_elem? l j ≡ some v → f v ≤ total f l
  total_part f [] j v e = absurd (some-ne-none v (sym e))
  total_part f (x ∷ xs) zero v e = let q : f x ≡ f v = ap f (some-injective x v e) in omega arith
  total_part f (x ∷ xs) (suc j) v e = let r = total_part f xs j v e in omega arith

  pub total_append : (f : A → ℕ) (l m : List A) → total f (l ++ m) ≡ total f l + total f m
  total_append f [] m = omega arith
  total_append f (x ∷ xs) m = let r = total_append f xs m in omega arith

  pub inside : (l : List A) (i : ℕ) (a : A) → get_elem? l i ≡ some a → i < length l
  inside [] i a e = absurd (some-ne-none a (sym e))
  inside (x ∷ xs) zero a e = omega arith
  inside (x ∷ xs) (suc i) a e = let r = inside xs i a e in omega arith

  pub there : (l : List A) (i : ℕ) → i < length l → (a : A) × (get_elem? l i ≡ some a)
  there [] i h = absurd (omega arith)
  there (x ∷ xs) zero h = (x, refl)
  there (x ∷ xs) (suc i) h = there xs i (omega arith)

  -- what stands at j in a list with one more at its end
  pub at_end : (l : List A) (a b : A) (j : ℕ) → get_elem? (l ++ a ∷ []) j ≡ some b → (get_elem? l j ≡ some b) ⊎ ((j ≡ length l) × (a ≡ b))
  at_end [] a b zero e = inr (refl, some-injective a b e)
  at_end [] a b (suc j) e = absurd (some-ne-none b (sym e))
  at_end (x ∷ xs) a b zero e = inl e
  at_end (x ∷ xs) a b (suc j) e = ⊎_elim (λ p. inl p) (λ t. inr (ap suc t.0, t.1)) (at_end xs a b j e)

  -- what stands in a list stands there with more after it
  pub in_front : (l m : List A) (j : ℕ) (a : A) → get_elem? l j ≡ some a → get_elem? (l ++ m) j ≡ some a
  in_front [] m j a e = absurd (some-ne-none a (sym e))
  in_front (x ∷ xs) m zero a e = e
  in_front (x ∷ xs) m (suc j) a e = in_front xs m j a e

  pub at_set_same : (l : List A) (k : ℕ) (x y : A) → get_elem? l k ≡ some x → get_elem? (set l k y) k ≡ some y
  at_set_same [] k x y e = absurd (some-ne-none x (sym e))
  at_set_same (z ∷ l) zero x y e = refl
  at_set_same (z ∷ l) (suc k) x y e = at_set_same l k x y e

  pub at_set_other : (l : List A) (k j : ℕ) (y : A) → j ≢ k → get_elem? (set l k y) j ≡ get_elem? l j
  at_set_other [] k j y ne = refl
  at_set_other (z ∷ l) zero zero y ne = absurd (ne refl)
  at_set_other (z ∷ l) zero (suc j) y ne = refl
  at_set_other (z ∷ l) (suc k) zero y ne = refl
  at_set_other (z ∷ l) (suc k) (suc j) y ne = at_set_other l k j y (λ e. ne (ap suc e))

  total_none : (f : A → ℕ) (l : List A) → ((j : ℕ) (u : A) → get_elem? l j ≡ some u → f u ≡ 0) → total f l ≡ 0
  total_none f [] z = refl
  total_none f (x ∷ xs) z = let q = z 0 x refl in let r = total_none f xs (λ j u h. z (suc j) u h) in omega arith

  -- where only v has a part of f, f of v is the whole
  pub total_alone : (f : A → ℕ) (l : List A) (i : ℕ) (v : A) → get_elem? l i ≡ some v
      → ((j : ℕ) (u : A) → j ≢ i → get_elem? l j ≡ some u → f u ≡ 0) → total f l ≡ f v
  total_alone f [] i v e z = absurd (some-ne-none v (sym e))
  total_alone f (x ∷ xs) zero v e z = let q : f x ≡ f v = ap f (some-injective x v e) in let r = total_none f xs
      (λ j u h. z (suc j) u (λ k. omega arith) h) in omega arith
  total_alone f (x ∷ xs) (suc i) v e z = let q = z 0 x (λ k. omega arith) refl in let r = total_alone f xs i v e
      (λ j u ne h. z (suc j) u (λ k. ne (omega arith)) h) in omega arith

  -- two that stand at different places have no more than the whole
  pub total_two : (f : A → ℕ) (l : List A) (i j : ℕ) (v u : A) → get_elem? l i ≡ some v → get_elem? l j ≡ some u → j ≢ i
      → f v + f u ≤ total f l
  total_two f [] i j v u e g ne = absurd (some-ne-none v (sym e))
  total_two f (x ∷ xs) zero zero v u e g ne = absurd (ne refl)
  total_two f (x ∷ xs) zero (suc j) v u e g ne = let q : f x ≡ f v = ap f (some-injective x v e) in let p = total_part f xs j u g in
      omega arith
  total_two f (x ∷ xs) (suc i) zero v u e g ne = let q : f x ≡ f u = ap f (some-injective x u g) in let p = total_part f xs i v e in
      omega arith
  total_two f (x ∷ xs) (suc i) (suc j) v u e g ne = let r = total_two f xs i j v u e g (λ z. ne (ap suc z)) in omega arith

  pub tally_set : (f : ℕ → A → ℕ) (i : ℕ) (l : List A) (j : ℕ) (v w : A) → get_elem? l j ≡ some v → tally f i (set l j w) + f (i + j) v
      ≡ tally f i l + f (i + j) w
  tally_set f i [] j v w e = absurd (some-ne-none v (sym e))
  tally_set f i (x ∷ xs) zero v w e =
      let q : f i x ≡ f i v = ap (f i) (some-injective x v e) in
      let z : i + 0 ≡ i = omega arith in
      let a : f (i + 0) v ≡ f i v = ap (λ (k : ℕ). f k v) z in
      let b : f (i + 0) w ≡ f i w = ap (λ (k : ℕ). f k w) z in omega arith
  tally_set f i (x ∷ xs) (suc j) v w e =
      let r = tally_set f (suc i) xs j v w e in
      let z : i + suc j ≡ suc i + j = omega arith in
      let a : f (i + suc j) v ≡ f (suc i + j) v = ap (λ (k : ℕ). f k v) z in
      let b : f (i + suc j) w ≡ f (suc i + j) w = ap (λ (k : ℕ). f k w) z in omega arith

  pub tally_below : (f : ℕ → A → ℕ) (g : A → ℕ) (i : ℕ) (l : List A) → ((j : ℕ) (x : A) → f j x ≤ g x) → tally f i l ≤ total g l
  tally_below f g i [] h = omega arith
  tally_below f g i (x ∷ xs) h = let a = h i x in let b = tally_below f g (suc i) xs h in omega arith

  pub tally_snoc : (f : ℕ → A → ℕ) (i : ℕ) (l : List A) (w : A) → tally f i (l ++ w ∷ []) ≡ tally f i l + f (i + length l) w
  tally_snoc f i [] w = let z : i + 0 ≡ i = omega arith in let a : f (i + 0) w ≡ f i w = ap (λ (k : ℕ). f k w) z in omega arith
  tally_snoc f i (x ∷ xs) w =
      let r = tally_snoc f (suc i) xs w in
      let z : i + suc (length xs) ≡ suc i + length xs = omega arith in
      let a : f (i + suc (length xs)) w ≡ f (suc i + length xs) w = ap (λ (k : ℕ). f k w) z in omega arith

pub map_at : {A B : Type 0} → (f : A → B) (l : List A) (i : ℕ) (v : A) → get_elem? l i ≡ some v → get_elem? (map f l) i ≡ some (f v)
map_at f [] i v e = absurd (some-ne-none v (sym e))
map_at f (x ∷ xs) zero v e = ap (λ y. some (f y)) (some-injective x v e)
map_at f (x ∷ xs) (suc i) v e = map_at f xs i v e
