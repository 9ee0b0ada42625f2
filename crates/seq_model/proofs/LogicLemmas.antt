-- Lemmas of logic that the standard library lacks: no `Some` is `None`, and tests of numbers that are decided.
use Rattle.std.proofs.Common.{◌≡◌, ◌⊎◌, ℕ, ◌<◌, ◌≤◌, true, false, inl, inr, refl, arith}
use Rattle.std.specs.Prelude.{Option, Some, None, nat_lt, nat_le}
use Rattle.std.proofs.lemmas.Bool.Decides.{nat_tests}

pub some-none : {A : Type 0} (x : A) → Some x ≡ None → ⊥
some-none x e = cc

pub none_or_some : (o : Option ℕ) → (o ≡ None) ⊎ ((n : ℕ) × (o ≡ Some n))
none_or_some None = inl refl
none_or_some (Some n) = inr (n, refl)

-- ---- what a test that was answered says, and how a test is answered
pub nat_lt-true : (m n : ℕ) → nat_lt m n ≡ true → m < n
nat_lt-true m n e = grind (arith, nat_tests)

pub nat_lt-false : (m n : ℕ) → nat_lt m n ≡ false → n ≤ m
nat_lt-false m n e = grind (arith, nat_tests)

pub nat_le-true : (m n : ℕ) → nat_le m n ≡ true → m ≤ n
nat_le-true m n e = grind (arith, nat_tests)

pub lt-nat_lt : (m n : ℕ) → m < n → nat_lt m n ≡ true
lt-nat_lt m n h = grind (arith, nat_tests)

pub le-nat_lt : (m n : ℕ) → n ≤ m → nat_lt m n ≡ false
le-nat_lt m n h = grind (arith, nat_tests)

pub le-nat_le : (m n : ℕ) → m ≤ n → nat_le m n ≡ true
le-nat_le m n h = grind (arith, nat_tests)
