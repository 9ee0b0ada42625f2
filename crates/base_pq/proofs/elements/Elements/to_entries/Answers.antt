use Rattle.std.proofs.Common.{◌≡◌, IfOk, sym, ap, subst, ◌∙◌}
use Rattle.std.specs.FinMap as map
use Rattle.seq_model.specs.Counts.{HasNoZero}
use Rattle.seq_model.specs.Entries.{IsRising}
use Rattle.base_pq.specs.Laid.{laid, layered}
use Rattle.base_pq.proofs.LaidLemmas.{made_of}
use Rattle.base_pq.proofs.elements.Elements.to_entries.Goals as goal

pub merged-requires-clause-list : goal.merged-requires-clause-list
merged-requires-clause-list c = subst IsRising (sym c.as_slice.ensures) (map.entries_sorted c.self.inside.lower)

pub merged-requires-clause-over : goal.merged-requires-clause-over
merged-requires-clause-over c =
    subst IsRising (sym (c.as_slice-2.ensures.value ∙ c.in_ok-changed.ensures))
    (map.entries_sorted (layered c.self.inside.upper c.self.inside.own.elements))

pub returns-clause-all : goal.returns-clause-all
returns-clause-all c = subst (λ m. IfOk c.merged.result (λ all. all.items ≡ map.entries m))
    ((λ i. laid ((ap map.from_sorted c.as_slice.ensures ∙ made_of c.self.inside.lower) i)
    ((c.as_slice-2.ensures.value ∙ c.in_ok-changed.ensures) i)) ∙ ap (λ s. s.elements) c.self.view_is) c.merged.ensures

pub returns-clause-no_zero : goal.returns-clause-no_zero
returns-clause-no_zero c = subst HasNoZero (ap (λ s. s.elements) c.self.view_is) c.self.invariant
