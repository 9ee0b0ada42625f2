use Rattle.std.proofs.Common.{◌≡◌, ◌+◌, ◌-◌, ◌<◌, Some, drop, length, sym, ap, ◌∙◌, arith}
use Rattle.std.proofs.lemmas.List.{get_or-drop, length-drop}
use Rattle.std.specs.FinMap.{get}
use Rattle.base_queue.specs.Conflicts.{cells_from}
use Rattle.base_queue.specs.FrameLemmas.{below_cells}
use Rattle.base_queue.proofs.OddLemmas.{item_at, past_items}
use Rattle.base_queue.proofs.cells.standing.Goals as goal

pub returns-then-index-first : goal.returns-then-index-first
returns-then-index-first c = sym (below_cells c.args.first c.args.index (drop c.args.gone c.args.items.now.items) c.if-index-first.true)

pub returns-then-place-len : goal.returns-then-place-len
returns-then-place-len c =
    let xs = c.args.items.now.items in
    let place = c.args.index - c.args.first in
    let left = length-drop c.args.gone xs in
    let lt : place < length (drop c.args.gone xs) = omega (arith, left, c.if-place-len.true, c.len.ensures.len) in
    let at : c.args.first + place ≡ c.args.index = omega (arith, c.if-index-first.false) in
    ap (λ x. Some x) (c.at.ensures ∙ sym (get_or-drop c.args.gone xs place 0)) ∙ sym (item_at c.args.first place 0 (drop c.args.gone xs) lt)
    ∙ ap (get (cells_from c.args.first (drop c.args.gone xs))) at

pub returns-else-place-len : goal.returns-else-place-len
returns-else-place-len c =
    let xs = c.args.items.now.items in
    let left = length-drop c.args.gone xs in
    sym (past_items c.args.first c.args.index (drop c.args.gone xs)
    (omega (arith, left, c.if-place-len.false, c.len.ensures.len, c.if-index-first.false)))
