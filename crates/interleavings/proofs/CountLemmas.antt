-- One run more, of an outcome that was found before or not.
use Rattle.std.proofs.Common.{◌≡◌, ◌∙◌, ap, ◌+◌, ◌^◌, ◌<◌, ℕ, List, [], ◌∷◌, ◌++◌, arith, length, get_or, set}
use Rattle.std.proofs.lemmas.List.Sums.{get_or-le-sum_by, sum_by-append, sum_by-set}
use Rattle.interleavings.specs.declared.outcomes.Outcome.{Outcome}
use Rattle.interleavings.specs.Explorations.{runs_of}

-- the outcome at this place once more: its count is no more than the runs, so it has room for one more
pub runs-joined : (xs : List Outcome) (i runs now : ℕ) (here joined found : Outcome) → i < length xs → here ≡ get_or xs i here
    → found.count ≡ 1 → (here.count + found.count < 2 ^ 64 → joined.count ≡ here.count + found.count)
    → runs_of xs ≡ runs → runs + 1 < 2 ^ 64 → now ≡ runs + 1 → runs_of (set xs i joined) ≡ now
runs-joined xs i runs now here joined found inside at one joins counted room more =
    let least = get_or-le-sum_by (λ (o : Outcome). o.count) xs i here inside in
    let same : here.count ≡ (get_or xs i here).count = ap (λ (o : Outcome). o.count) at in
    let sum = joins (omega (arith, least, same, one, counted, room)) in
    omega (arith, sum_by-set (λ (o : Outcome). o.count) xs i joined here inside, sum, same, one, counted, more)

pub runs-pushed : (xs : List Outcome) (runs now : ℕ) (found : Outcome) → found.count ≡ 1 → runs_of xs ≡ runs → now ≡ runs + 1
    → runs_of (xs ++ found ∷ []) ≡ now
runs-pushed xs runs now found one counted more =
    omega (arith, sum_by-append (λ (o : Outcome). o.count) xs (found ∷ []), one, counted, more)
