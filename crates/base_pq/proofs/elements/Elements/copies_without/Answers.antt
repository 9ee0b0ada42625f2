use Rattle.std.proofs.Common.{ap, ◌-◌, ◌∙◌}
use Rattle.base_pq.proofs.LaidLemmas.{fewer_other, fewer_same}
use Rattle.base_pq.proofs.elements.Elements.copies_without.Goals as goal

pub returns-then-kept-element : goal.returns-then-kept-element
returns-then-kept-element c =
    c.saturating_sub.ensures ∙ ap (λ n. n - 1) c.copies-count.ensures
    ∙ fewer_same c.args.self.now.elements c.args.element c.args.kept c.if-kept-element.true

pub returns-else-kept-element : goal.returns-else-kept-element
returns-else-kept-element c =
    c.copies-count.ensures ∙ fewer_other c.args.self.now.elements c.args.element c.args.kept c.if-kept-element.false
