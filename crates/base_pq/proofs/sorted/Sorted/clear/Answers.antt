use Rattle.std.proofs.Common.{ap, sym, subst, ◌∙◌}
use Rattle.std.specs.FinMap.{from_sorted}
use Rattle.seq_model.specs.Entries.{IsRising}
use Rattle.seq_model.proofs.EntryLemmas.{none_of}
use Rattle.base_pq.proofs.sorted.Sorted.clear.Goals as goal

pub returns-clause-elements : goal.returns-clause-elements
returns-clause-elements c = ap from_sorted c.clear.ensures.items ∙ none_of

pub invariant_of-self : goal.invariant_of-self
invariant_of-self c = subst IsRising (sym c.clear.ensures.items) tt
