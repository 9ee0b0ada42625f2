-- Small lists of locations, and keys that are compared: what the frame laws of each kind of collection use.
use Rattle.std.proofs.Common.{◌≡◌, ℕ, zero, suc, ◌+◌, ◌<◌, ◌%◌, ◌⊎◌, inl, inr, true, [], ◌∷◌, get_or, Some, None, Contains, refl, sym}
use Rattle.std.proofs.Common.{subst, arith}
use Rattle.std.proofs.Math.Nat.{mod-lt}
use Rattle.std.specs.List.{range_with_len}
use Rattle.std.specs.Ordering.{nat_cmp, eq_by_cmp}
use Rattle.std.proofs.lemmas.Bool.Decides.{nat_tests}
use Rattle.std.proofs.lemmas.List.FromFn.{length-range_with_len}
use Rattle.std.proofs.lemmas.Option.{same_Some, none-some}
use Rattle.seq_model.proofs.LogicLemmas.{some-none}

pub in_single : (x : ℕ) → Contains (x ∷ []) x
in_single x = (0, omega arith, refl)

pub first_of_two : (x y : ℕ) → Contains (x ∷ y ∷ []) x
first_of_two x y = (0, omega arith, refl)

pub second_of_two : (x y : ℕ) → Contains (x ∷ y ∷ []) y
second_of_two x y = (1, omega arith, refl)

-- an element of a short list is one of those that are named
pub of_none : (l : ℕ) → ¬ Contains [] l
of_none l c = omega (arith, c.1)

pub of_single : (x l : ℕ) → Contains (x ∷ []) l → l ≡ x
of_single x l (zero, lt, e) = sym e
of_single x l (suc k, lt, e) = absurd (omega (arith, lt))

pub of_two : (x y l : ℕ) → Contains (x ∷ y ∷ []) l → (l ≡ x) ⊎ (l ≡ y)
of_two x y l (zero, lt, e) = inl (sym e)
of_two x y l (suc zero, lt, e) = inr (sym e)
of_two x y l (suc (suc k), lt, e) = absurd (omega (arith, lt))

range_at : (a n k d : ℕ) → k < n → get_or (range_with_len a n) k d ≡ a + k
range_at a zero k d lt = absurd (omega arith)
range_at a (suc n) zero d lt = omega arith
range_at a (suc n) (suc k) d lt = let e = range_at (a + 1) n k d (omega arith) in omega arith

pub in_range : (n l : ℕ) → l < n → Contains (range_with_len 0 n) l
in_range n l lt =
    let e = range_at 0 n l l lt in
    (l, subst (λ m. l < m) (sym (length-range_with_len 0 n)) lt, omega arith)

pub of_range : (n l : ℕ) → Contains (range_with_len 0 n) l → l < n
of_range n l (k, lt, e) =
    let below : k < n = subst (λ m. k < m) (length-range_with_len 0 n) lt in
    let is = range_at 0 n k l below in
    omega arith

pub mod_below : (x n : ℕ) → 0 < n → x % n < n
mod_below x n pos = mod-lt x pos

pub same_key : (q k : ℕ) → eq_by_cmp nat_cmp q k ≡ true → q ≡ k
same_key q k h = grind (arith, nat_tests)

pub key_itself : (k : ℕ) → eq_by_cmp nat_cmp k k ≡ true
key_itself k = grind (arith, nat_tests)
