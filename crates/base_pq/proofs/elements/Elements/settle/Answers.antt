use Rattle.std.proofs.Common.{ap, sym, subst, ◌∙◌}
use Rattle.std.specs.FinMap.{entries}
use Rattle.seq_model.specs.Counts.{HasNoZero}
use Rattle.base_pq.specs.Laid.{laid, layered}
use Rattle.base_pq.proofs.LaidLemmas.{none_layered}
use Rattle.base_pq.proofs.elements.Elements.settle.Goals as goal

pub invariant_of-self : goal.invariant_of-self
invariant_of-self c =
    let is = (λ i. laid c.in-Ok.lower (entries (layered c.in-Ok.upper (c.clear.ensures.elements i))))
    ∙ ap (λ n. laid c.in-Ok.lower (entries n)) (none_layered c.in-Ok.upper) ∙ c.in-Ok.ensures in
    subst HasNoZero (sym is) c.self.invariant

pub returns-in-Ok-clause-elements : goal.returns-in-Ok-clause-elements
returns-in-Ok-clause-elements c =
    (λ i. laid c.in-Ok.lower (entries (layered c.in-Ok.upper (c.clear.ensures.elements i))))
    ∙ ap (λ n. laid c.in-Ok.lower (entries n)) (none_layered c.in-Ok.upper) ∙ c.in-Ok.ensures
    ∙ ap (λ s. s.elements) c.self.view_is
