use Rattle.std.proofs.Common.{◌≡◌, ◌<◌, ◌^◌, ap, sym, subst, get_or, length, arith}
use Rattle.std.specs.List.Sorted.{IsStrictlyIncreasing}
use Rattle.std.proofs.lemmas.Grind.{get_or_default_zero}
use Rattle.conflict.proofs.EditionLemmas.{raised_before}
use Rattle.conflict.proofs.editions.raise_numbers.Goals as goal

pub overflow_add-index_mut : goal.overflow_add-index_mut
overflow_add-index_mut c =
    let ws = c.as_slice-location-items.result.now in
    let es = c.args.numbers.now.items in
    let now = c.loop-location.numbers.items in
    let k = c.loop-location.location-index in
    let l = get_or ws k 0 in
    let same = c.as_slice-location-items.ensures.locations in
    let lt : k < length c.args.written.now = subst (λ xs. k < length xs) same c.loop-location-test.true in
    let at : get_or c.args.written.now k 0 ≡ l = ap (λ xs. get_or xs k 0) (sym same) in
    let below : get_or es l 0 < 2 ^ 63 = subst (λ x. get_or es x 0 < 2 ^ 63) at (c.requires.below k 0 lt) in
    let within : l < length es = subst (λ x. x < length es) at (c.requires.within k 0 lt) in
    let len = c.loop-location.invariant.1 in
    let rising : IsStrictlyIncreasing ws = subst IsStrictlyIncreasing (sym same) c.as_slice-location-items.ensures.rising in
    let kept = raised_before ws es now k rising c.loop-location-test.true c.loop-location.invariant.0 in
    let read = get_or_default_zero now l c.index_mut.result.now (omega arith) in
    let value = c.index_mut.ensures.value in
    omega arith
