use Rattle.std.proofs.Common.{◌∙◌, drop, sym, ap, arith}
use Rattle.base_queue.specs.Conflicts.{cells_from}
use Rattle.base_queue.specs.SharedList.{with_odd}
use Rattle.base_queue.proofs.OddLemmas.{back_put, no_odd}
use Rattle.base_queue.proofs.cells.Cells.put_in.Goals as goal

pub returns-then-index-self-clause-cells : goal.returns-then-index-self-clause-cells
returns-then-index-self-clause-cells c =
    let none = no_odd c.self.inside.odd c.is_empty.result c.if-is_empty.true c.is_empty.ensures in
    ap (λ t. with_odd (cells_from c.self.inside.first (drop c.self.inside.gone t)) c.self.inside.odd.items) c.push.ensures.items
    ∙ back_put c.args.self.now.shown.cells c.self.inside.first c.self.inside.gone c.args.index c.args.item c.self.inside.items.items
    c.self.inside.odd.items none c.self.invariant.2 (omega (arith, c.if-index-self.true, c.len.ensures.len))
    (sym (ap (λ s. s.shown.cells) c.self.view_is))
