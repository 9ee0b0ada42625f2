-- Numbers sorted in place, each kept once.
use Rattle.std.proofs.Common.{◌≡◌, ℕ, List, [], ◌∷◌, length, Contains, IsPermutation, refl, sym, ap, ◌∙◌, subst, arith}
use Rattle.std.specs.Prelude.{nat_eq, ◌↔◌}
use Rattle.std.specs.List.{dedup, refill}
use Rattle.std.specs.List.Sorted.{IsSorted, IsStrictlyIncreasing}
use Rattle.std.specs.Ordering.{nat_cmp}
use Rattle.std.proofs.lemmas.List.Kept.{Contains-dedup_nat, Contains-from_dedup}
use Rattle.std.proofs.lemmas.List.Sorted.{Contains-permutation, IsPermutation-sym}
use Rattle.std.proofs.lemmas.Map.Keys.{IsStrictlyIncreasing-dedup}

-- as many elements as there were fill the whole again
refilled : (xs ws : List ℕ) → length ws ≡ length xs → refill (length xs) xs ws ≡ ws
refilled [] [] same = refl
refilled [] (w ∷ ws) same = absurd (omega (arith, same))
refilled (x ∷ xs) [] same = absurd (omega (arith, same))
refilled (x ∷ xs) (w ∷ ws) same = ap (λ (zs : List ℕ). w ∷ zs) (refilled xs ws (omega (arith, same)))

pub kept_rises : (xs ws kept : List ℕ) → length ws ≡ length xs → IsSorted nat_cmp ws → kept ≡ dedup nat_eq (refill (length xs) xs ws)
    → IsStrictlyIncreasing kept
kept_rises xs ws kept same sorted is =
    subst IsStrictlyIncreasing (sym is) (subst (λ (zs : List ℕ). IsStrictlyIncreasing (dedup nat_eq zs)) (sym (refilled xs ws same))
    (IsStrictlyIncreasing-dedup ws sorted))

pub kept_members : (xs ws kept : List ℕ) (x : ℕ) → length ws ≡ length xs → IsPermutation xs ws
    → kept ≡ dedup nat_eq (refill (length xs) xs ws) → Contains kept x ↔ Contains xs x
kept_members xs ws kept x same moved is =
    let all : kept ≡ dedup nat_eq ws = is ∙ ap (dedup nat_eq) (refilled xs ws same) in (
      (λ c. Contains-permutation ws xs x (IsPermutation-sym xs ws moved)
          (Contains-from_dedup nat_eq ws x (subst (λ zs. Contains zs x) all c))),
      (λ c. subst (λ zs. Contains zs x) (sym all) (Contains-dedup_nat ws x (Contains-permutation xs ws x moved c))),
    )
