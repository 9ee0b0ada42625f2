use Rattle.std.proofs.Common.{sym, subst, ◌∙◌}
use Rattle.std.specs.FinMap as map
use Rattle.seq_model.specs.Counts.{HasNoZero}
use Rattle.seq_model.proofs.CountsLemmas.{no_zero_empty}
use Rattle.base_pq.specs.Laid.{laid, layered}
use Rattle.base_pq.proofs.LaidLemmas.{none_at_all}
use Rattle.base_pq.proofs.elements.Elements.new.Goals as goal

pub invariant_of-result : goal.invariant_of-result
invariant_of-result c =
    let is = (λ i. laid (c.empty.ensures i) (map.entries (layered (c.empty-2.ensures i) (c.new.ensures i)))) ∙ none_at_all in
    subst HasNoZero (sym is) no_zero_empty

pub returns : goal.returns
returns c = (λ i. laid (c.empty.ensures i) (map.entries (layered (c.empty-2.ensures i) (c.new.ensures i)))) ∙ none_at_all
