-- Different words are at different addresses, each within the table; and its values are read one after another.
use Rattle.std.proofs.Common.{◌≡◌, ◌≢◌, ℕ, ◌+◌, ◌*◌, ◌<◌, ◌≤◌, List, [], ◌∷◌, ◌++◌, get_or, refl, sym, ap, ◌∙◌, arith}
use Rattle.std.specs.Prelude.{nat_le}
use Rattle.std.proofs.lemmas.Bool.{cond_both}
use Rattle.std.proofs.lemmas.List.FromFn.{map-range_with_len_more}
use Rattle.tx_machine.specs.Cells.{Cell, ClockCell, LockCell, ValueCell}
use Rattle.shared_table.specs.declared.layout.TheConstants.{WIDE_LIMIT}
use Rattle.shared_table.specs.Layout.{address, gate_address, IsInside, stride, values_in, width}

-- what holds of both strides
either_way : (n : ℕ) (P : ℕ → Type 0) → P 8 → P 2 → P (stride n)
either_way n P wide narrow = cond_both {A = ℕ} (nat_le n WIDE_LIMIT) 8 2 P (λ _. wide) (λ _. narrow)

-- two locations that lie at one place are one
one_place : (n k l : ℕ) → 8 + stride n * k ≡ 8 + stride n * l → k ≡ l
one_place n k l = either_way n (λ d. 8 + d * k ≡ 8 + d * l → k ≡ l) (λ e. omega arith) (λ e. omega arith)

-- a lock word is not where a value is
lock_value : (n k l : ℕ) → 8 + stride n * k ≢ 9 + stride n * l
lock_value n k l = either_way n (λ d. 8 + d * k ≡ 9 + d * l → ⊥) (λ e. omega arith) (λ e. omega arith)

-- a location is before the gates
before : (n l : ℕ) → l < n → 10 + stride n * l ≤ 8 + stride n * n
before n l lt = either_way n (λ d. 10 + d * l ≤ 8 + d * n) (omega (arith, lt)) (omega (arith, lt))

pub apart : (n : ℕ) (c d : Cell) → IsInside n c → IsInside n d → (c ≡ d → ⊥) → address n d ≢ address n c
apart n ClockCell ClockCell i j ne e = ne refl
apart n ClockCell (LockCell l) i j ne e = omega arith
apart n ClockCell (ValueCell l) i j ne e = omega arith
apart n (LockCell k) ClockCell i j ne e = omega arith
apart n (LockCell k) (LockCell l) i j ne e = ne (ap (λ (m : ℕ). LockCell m) (sym (one_place n l k e)))
apart n (LockCell k) (ValueCell l) i j ne e = lock_value n k l (sym e)
apart n (ValueCell k) ClockCell i j ne e = omega arith
apart n (ValueCell k) (LockCell l) i j ne e = lock_value n l k e
apart n (ValueCell k) (ValueCell l) i j ne e =
    ne (ap (λ (m : ℕ). ValueCell m) (sym (one_place n l k (omega (arith, e)))))

pub gate_apart : (n : ℕ) (c : Cell) (k : ℕ) → IsInside n c → gate_address n k ≢ address n c
gate_apart n ClockCell k i e = omega (arith, e)
gate_apart n (LockCell l) k i e = let b = before n l i in omega (arith, b, e)
gate_apart n (ValueCell l) k i e = let b = before n l i in omega (arith, b, e)

pub low : (n m : ℕ) (c : Cell) → IsInside n c → address n c < width n m
low n m ClockCell i = omega arith
low n m (LockCell l) i = let b = before n l i in omega (arith, b)
low n m (ValueCell l) i = let b = before n l i in omega (arith, b)

pub gate_low : (n m k : ℕ) → k < m → gate_address n k < width n m
gate_low n m k lt = omega (arith, lt)

pub gates_apart : (n k j : ℕ) → j ≢ k → gate_address n j ≢ gate_address n k
gates_apart n k j ne e = ne (omega (arith, e))

-- one value more is read
pub one_value : (n m : ℕ) (words values : List ℕ) → values ≡ values_in n m words
    → values_in n (m + 1) words ≡ values ++ get_or words (address n (ValueCell m)) 0 ∷ []
one_value n m words values is =
    let at : ℕ → ℕ = λ l. get_or words (address n (ValueCell l)) 0 in
    map-range_with_len_more at 0 m m (omega arith) ∙ ap (λ (vs : List ℕ). vs ++ at m ∷ []) (sym is)
