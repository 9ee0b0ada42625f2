use Rattle.std.proofs.Common.{◌≡◌, ◌+◌, ◌-◌, ◌<◌, drop, length, get_or, take, sym, ap, ◌∙◌, arith}
use Rattle.std.proofs.lemmas.List.{get_or-drop, length-drop}
use Rattle.std.specs.FinMap.{insert}
use Rattle.base_queue.specs.Conflicts.{cells_from}
use Rattle.base_queue.proofs.CellLemmas.{next_taken}
use Rattle.base_queue.proofs.cells.Cells.to_items.Goals as goal

pub loop-place-preserved : goal.loop-place-preserved
loop-place-preserved c =
    let xs = c.self.inside.items.items in
    let gone = c.self.inside.gone in
    let place = c.loop-place.place in
    let before = c.loop-place.invariant in
    let lt : place < length xs = omega (arith, c.loop-place-test.true, c.len-place-end.ensures.len) in
    let within : place - gone < length (drop gone xs) = omega (arith, lt, before.2, length-drop gone xs) in
    let back : gone + (place - gone) ≡ place = omega (arith, before.2) in
    let next : place + 1 - gone ≡ place - gone + 1 = omega (arith, before.2) in
    let item = c.at.ensures ∙ sym (get_or-drop gone xs (place - gone) 0 ∙ ap (λ k. get_or xs k 0) back) in (
      c.in_ok-insert.ensures.ok ∙ ap (insert c.loop-place.entries c.loop-place.index) item
          ∙ next_taken c.self.inside.first (place - gone) c.loop-place.index 0 (drop gone xs) c.loop-place.entries within before.0 before.1
          ∙ ap (λ k. cells_from c.self.inside.first (take k (drop gone xs))) (sym next),
      omega (arith, before.1, before.2),
      omega (arith, before.2),
      omega (arith, lt),
    )
