use Rattle.std.proofs.Common.{◌≡◌, IfOk, true, sym, ap, subst, ◌∙◌}
use Rattle.std.specs.FinMap.{entries, entries_sorted, from_sorted}
use Rattle.seq_model.specs.Entries.{IsRising}
use Rattle.base_pq.specs.Laid.{laid_by}
use Rattle.base_pq.proofs.LaidLemmas.{made_of}
use Rattle.base_pq.proofs.elements.layered.Goals as goal

pub merged-requires-clause-list : goal.merged-requires-clause-list
merged-requires-clause-list c = subst IsRising (sym c.as_slice.ensures) (entries_sorted c.args.upper.now)

pub merged-requires-clause-over : goal.merged-requires-clause-over
merged-requires-clause-over c = subst IsRising (sym c.as_slice-2.ensures) (entries_sorted c.args.own.now.elements)

pub returns : goal.returns
returns c = subst (λ m. IfOk c.merged.result (λ made. made.items ≡ entries m))
    (λ i. laid_by true ((ap from_sorted c.as_slice.ensures ∙ made_of c.args.upper.now) i) (c.as_slice-2.ensures i)) c.merged.ensures
