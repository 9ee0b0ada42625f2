-- A range from one number on begins with it.
use Rattle.std.proofs.Common.{◌≡◌, ℕ, suc, ◌+◌, ◌-◌, ◌<◌, ◌∷◌, ap, arith}
use Rattle.std.specs.List.{range_with_len}

pub range_next : (i n : ℕ) → i < n → range_with_len i (n - i) ≡ i ∷ range_with_len (i + 1) (n - (i + 1))
range_next i n lt = let e : n - i ≡ suc (n - (i + 1)) = omega (arith, lt) in ap (range_with_len i) e
