use Rattle.std.proofs.Common.{subst, ◌≡◌, ℕ, zero, suc, ◌+◌, [], ◌∷◌, ◌++◌, ap, sym, ◌∙◌, add-one, length, arith}
use Rattle.std.specs.List.{range_with_len}
use Rattle.std.specs.List.Sorted.{IsStrictlyIncreasing}
use Rattle.std.proofs.lemmas.List.FromFn.{length-range_with_len}
use Rattle.conflict.proofs.LocationLemmas.{range_rises}
use Rattle.conflict.proofs.loc_set.LocSet.all_below.Goals as goal

-- a range with one number more ends with that number
range_more : (a n : ℕ) → range_with_len a (suc n) ≡ range_with_len a n ++ (a + n) ∷ []
range_more a zero = let e : a ≡ a + 0 = omega arith in ap (λ x. x ∷ []) e
range_more a (suc n) =
    let e : (a + 1) + n ≡ a + suc n = omega arith in
    ap (λ xs. a ∷ xs) (range_more (a + 1) n ∙ ap (λ x. range_with_len (a + 1) n ++ x ∷ []) e)

from_zero : (n : ℕ) → range_with_len 0 n ++ n ∷ [] ≡ range_with_len 0 (n + 1)
from_zero n =
    let e : 0 + n ≡ n = omega arith in
    rw add-one (sym (range_more 0 n ∙ ap (λ x. range_with_len 0 n ++ x ∷ []) e))

pub loop-location-preserved : goal.loop-location-preserved
loop-location-preserved c =
    let room = c.loop-location.invariant.1 in
    let kept = c.push.ensures.capacity in (
      c.in_ok-push.ensures.ok ∙ ap (λ xs. xs ++ c.loop-location.location ∷ []) c.loop-location.invariant.0
          ∙ from_zero c.loop-location.location,
      omega arith,
    )

pub invariant_of-result : goal.invariant_of-result
invariant_of-result c = subst IsStrictlyIncreasing (sym c.loop-location.invariant.0) (range_rises c.loop-location.location)

pub returns-in_err-push-clause-served : goal.returns-in_err-push-clause-served
returns-in_err-push-clause-served c =
    let len : length c.loop-location.locations.items ≡ c.loop-location.location = ap length c.loop-location.invariant.0
    ∙ length-range_with_len 0 c.loop-location.location in
    let room = c.loop-location.invariant.1 in
    let below = c.loop-location-test.true in
    λ few. let no = c.in_err-push.ensures.succeeds (omega (arith, few)) in cc
