use Rattle.std.proofs.Common.{false, sym, ap, subst, ◌∙◌}
use Rattle.std.specs.FinMap as map
use Rattle.seq_model.specs.Entries.{IsRising}
use Rattle.base_pq.specs.Laid.{laid, laid_by, layered}
use Rattle.base_pq.proofs.LaidLemmas.{made_of, none_over}
use Rattle.base_pq.proofs.elements.settled.Goals as goal

pub of-requires : goal.of-requires
of-requires c =
    subst IsRising (sym c.in_ok-changed.ensures) (map.entries_sorted (layered c.args.upper.now c.args.own.now.elements))

pub returns-then-len-most : goal.returns-then-len-most
returns-then-len-most c =
    let all = layered c.args.upper.now c.args.own.now.elements in
    λ i. laid (c.in_ok-share.ensures i)
    (map.entries ((c.in_ok-of.ensures ∙ ap map.from_sorted c.in_ok-changed.ensures ∙ made_of all) i))

pub merged-requires-clause-list : goal.merged-requires-clause-list
merged-requires-clause-list c = subst IsRising (sym c.as_slice.ensures) (map.entries_sorted c.args.lower.now)

pub merged-requires-clause-over : goal.merged-requires-clause-over
merged-requires-clause-over c =
    subst IsRising (sym (c.as_slice-2.ensures.value ∙ c.in_ok-changed.ensures))
    (map.entries_sorted (layered c.args.upper.now c.args.own.now.elements))

pub of-requires-2 : goal.of-requires-2
of-requires-2 c =
    subst IsRising (sym c.in_ok-all.ensures)
    (map.entries_sorted (laid_by false (map.from_sorted c.as_slice.result.now) c.as_slice-2.result.now))

pub returns : goal.returns
returns c =
    let all = laid_by false (map.from_sorted c.as_slice.result.now) c.as_slice-2.result.now in
    (λ i. laid (c.in_ok-of-2.ensures i) (map.entries (c.empty.ensures i))) ∙ none_over (map.from_sorted c.in_ok-all.all.items)
    ∙ ap map.from_sorted c.in_ok-all.ensures ∙ made_of all
    ∙ (λ i. laid ((ap map.from_sorted c.as_slice.ensures ∙ made_of c.args.lower.now) i)
    ((c.as_slice-2.ensures.value ∙ c.in_ok-changed.ensures) i))
