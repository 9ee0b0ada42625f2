use Rattle.std.proofs.Common.{ap, sym, subst, ◌∙◌, arith}
use Rattle.std.specs.FinMap.{from_sorted}
use Rattle.seq_model.specs.Entries.{IsRising}
use Rattle.seq_model.proofs.EntryLemmas.{none_of}
use Rattle.base_pq.proofs.rest.Rest.empty.Goals as goal

pub returns : goal.returns
returns c = ap from_sorted c.empty.ensures ∙ none_of

pub invariant_of-result : goal.invariant_of-result
invariant_of-result c = (subst IsRising (sym c.empty.ensures) tt, omega arith)
