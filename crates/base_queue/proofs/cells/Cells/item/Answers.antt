use Rattle.std.proofs.Common.{◌≡◌, suc, ◌-◌, ◌<◌, drop, length, sym, ◌∙◌, arith}
use Rattle.base_queue.specs.Conflicts.{cells_from}
use Rattle.base_queue.proofs.OddLemmas.{found_odd, passed_odd}
use Rattle.base_queue.proofs.cells.Cells.item.Goals as goal

pub returns-then-index : goal.returns-then-index
returns-then-index c =
    let m = cells_from c.self.inside.first (drop c.self.inside.gone c.self.inside.items.items) in
    let lt : c.loop-at.at - 1 < length c.self.inside.odd.items = omega (arith, c.loop-at-test.true, c.loop-at.invariant.1) in
    let next : suc (c.loop-at.at - 1) ≡ c.loop-at.at = omega (arith, c.loop-at-test.true) in
    found_odd m c.self.inside.odd.items c.loop-at.at (c.loop-at.at - 1) c.args.index
    c.index.result.now c.index-then-index.result.now next lt
    c.index.ensures c.index-then-index.ensures c.if-index.true
    ∙ sym c.loop-at.invariant.0

pub loop-at-preserved : goal.loop-at-preserved
loop-at-preserved c =
    let m = cells_from c.self.inside.first (drop c.self.inside.gone c.self.inside.items.items) in
    let lt : c.loop-at.at - 1 < length c.self.inside.odd.items = omega (arith, c.loop-at-test.true, c.loop-at.invariant.1) in
    let next : suc (c.loop-at.at - 1) ≡ c.loop-at.at = omega (arith, c.loop-at-test.true) in (
      c.loop-at.invariant.0 ∙ passed_odd m c.self.inside.odd.items c.loop-at.at (c.loop-at.at - 1) c.args.index c.index.result.now next lt
          c.index.ensures c.if-index.false,
      omega (arith, lt),
    )
