use Rattle.std.proofs.Common.{◌≡◌, ◌+◌, ◌<◌, ◌≤◌, ◌++◌, drop, get_or, length, sym, ap, subst, ◌∙◌, arith}
use Rattle.std.proofs.lemmas.List.{drop-drop, length-drop, take_all}
use Rattle.std.specs.FinMap as map
use Rattle.std.specs.Ordering.{nat_cmp}
use Rattle.seq_model.specs.Entries.{IsRising}
use Rattle.seq_model.proofs.EntryLemmas.{entries_of}
use Rattle.base_pq.specs.Laid.{laid_by, with_number}
use Rattle.base_pq.proofs.MergeLemmas.{laid_next, later_above, tail_is}
use Rattle.base_pq.proofs.merge.merged.Goals as goal

pub loop-element-preserved : goal.loop-element-preserved
loop-element-preserved c =
    let list = c.args.list.now in
    let over = c.args.over.now in
    let from = c.loop-element.from in
    let used = c.in_ok-from.field-0 in
    let i = c.loop-element.element-index in
    let made = c.loop-element.made.items in
    let now = c.lay_one.new.made.items in
    let e = get_or over i (0, 0) in
    let before = c.loop-element.invariant in
    let lt : i < length over = omega (arith, c.loop-element-test.true, c.loop-element.auto.element-index-end) in
    let rest = tail_is from list in
    let left = ap (drop used) rest ∙ drop-drop used from list in
    let few : used ≤ length (drop from list) = subst (λ t. used ≤ length t) rest c.in_ok-from.ensures.used in
    let is : map.from_sorted {R = nat_cmp} (now ++ drop (from + used) list)
    ≡ with_number c.args.zeros (map.from_sorted (made ++ drop from list)) e.0 e.1 =
    ap (λ t. map.from_sorted (now ++ t)) (sym left) ∙ c.in_ok-from.ensures.made
    ∙ ap (λ t. with_number c.args.zeros (map.from_sorted (made ++ t)) e.0 e.1) rest in (
      is ∙ ap (λ m. with_number c.args.zeros m e.0 e.1) before.0 ∙ sym (laid_next c.args.zeros (map.from_sorted list) over i (0, 0) lt),
      subst (λ t. IsRising (now ++ t)) left c.in_ok-from.ensures.rising,
      omega (arith, few, before.2, length-drop from list),
      λ j d le within k f inside.
          let low = c.in_ok-from.ensures.below k f inside in
          let high = later_above over i j (0, 0) d c.requires.over (omega (arith, le)) within in
          omega (arith, low, high),
    )

pub returns : goal.returns
returns c =
    let list = c.args.list.now in
    let over = c.args.over.now in
    let from = c.loop-element.from in
    let i = c.loop-element.element-index in
    let made = c.loop-element.made.items in
    let all : length over ≤ i = omega (arith, c.loop-element-test.false, c.loop-element.auto.element-index-end) in
    c.in_ok-extend_from_slice.ensures.items ∙ ap (λ t. made ++ t) (tail_is from list)
    ∙ sym (entries_of (made ++ drop from list) c.loop-element.invariant.1)
    ∙ ap map.entries (c.loop-element.invariant.0 ∙ ap (laid_by c.args.zeros (map.from_sorted list)) (take_all i over all))
