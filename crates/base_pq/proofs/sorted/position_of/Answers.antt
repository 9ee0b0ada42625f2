use Rattle.std.proofs.Common.{ℕ, ◌<◌, sym, subst, arith}
use Rattle.std.proofs.lemmas.List.{get_or_default, length-take-le}
use Rattle.base_pq.proofs.MergeLemmas.{near_place, rising_take}
use Rattle.base_pq.proofs.sorted.position_of.Goals as goal

pub place_by_halves-requires : goal.place_by_halves-requires
place_by_halves-requires c = rising_take 128 c.args.list.now c.requires

pub slice_bounds-place_by_halves-end : goal.slice_bounds-place_by_halves-end
slice_bounds-place_by_halves-end c = sym (length-take-le 128 c.args.list.now (omega (arith, c.if-list-gt-NEAR.true)))

pub returns-then-element-list : goal.returns-then-element-list
returns-then-element-list c =
    let within = c.if-list-gt-NEAR.true in
    near_place 128 c.args.element c.args.list.now c.place_by_halves.result within
    (λ d. subst (λ (e : ℕ × ℕ). c.args.element < e.0) (get_or_default c.args.list.now 128 (0, 0) d within) c.if-element-list.true)
    c.place_by_halves.ensures
