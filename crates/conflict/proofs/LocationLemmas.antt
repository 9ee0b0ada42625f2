-- Lists of locations that rise strictly.
use Rattle.std.proofs.Common.{ℕ, zero, suc, ◌+◌, ◌<◌, [], ◌∷◌, arith}
use Rattle.std.specs.List.{range_with_len}
use Rattle.std.specs.List.Sorted.{IsStrictlyIncreasing}
use Rattle.std.proofs.lemmas.List.FromFn.{length-range_with_len, get_or-range_with_len}

pub none_rises : IsStrictlyIncreasing []
none_rises k within = absurd (omega (arith, within))

pub single_rises : (x : ℕ) → IsStrictlyIncreasing (x ∷ [])
single_rises x k within = absurd (omega (arith, within))

pub pair_rises : (x y : ℕ) → x < y → IsStrictlyIncreasing (x ∷ y ∷ [])
pair_rises x y less zero within = less
pair_rises x y less (suc k) within = absurd (omega (arith, within))

pub range_rises : (n : ℕ) → IsStrictlyIncreasing (range_with_len 0 n)
range_rises n k within =
    let len = length-range_with_len 0 n in
    let here = get_or-range_with_len 0 n k 0 (omega arith) in
    let next = get_or-range_with_len 0 n (k + 1) 0 (omega arith) in
    omega arith
