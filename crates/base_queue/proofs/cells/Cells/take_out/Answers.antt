use Rattle.std.proofs.Common.{sym, ap, arith}
use Rattle.base_queue.proofs.OddLemmas.{front_taken, no_odd}
use Rattle.base_queue.proofs.cells.Cells.take_out.Goals as goal

pub returns-then-self-len-clause-cells : goal.returns-then-self-len-clause-cells
returns-then-self-len-clause-cells c =
    let none = no_odd c.self.inside.odd c.is_empty.result c.if-is_empty.true c.is_empty.ensures in
    front_taken c.args.self.now.shown.cells c.self.inside.first c.self.inside.gone c.args.index c.self.inside.items.items
    c.self.inside.odd.items none c.if-index-self.true (omega (arith, c.if-self-len.true, c.len.ensures.len))
    (sym (ap (λ s. s.shown.cells) c.self.view_is))
