use Rattle.std.proofs.Common.{ap, sym, ◌∙◌}
use Rattle.std.specs.FinMap.{entries}
use Rattle.conflict.proofs.MultisetLemmas.{gives, gives_all}
use Rattle.base_pq.proofs.elements.Elements.of_counts.Goals as goal

pub loop-element-init : goal.loop-element-init
loop-element-init c =
    let same = c.into_entries-entries.ensures.entries in
    let items = c.into_iter-element-iterator.ensures.into_iter_gives ∙ c.into_iter-element-items.ensures ∙ ap entries same in
    (λ i. gives (c.new-elements.ensures i) (items i)) ∙ gives_all c.args.counts c.into_entries-entries.ensures.no_zero

pub loop-element-preserved : goal.loop-element-preserved
loop-element-preserved c =
    (λ i. gives (c.in_ok-give.ensures.ok i) c.next.new.self) ∙ ap (gives c.loop-element.elements.elements) (sym c.in-Some.ensures.steps)
    ∙ c.loop-element.invariant
