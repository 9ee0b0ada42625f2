use Rattle.std.proofs.Common.{drop, sym, ap, ◌∙◌}
use Rattle.std.specs.FinMap as map
use Rattle.seq_model.proofs.EntryLemmas.{entries_of}
use Rattle.base_pq.proofs.MergeLemmas.{rising_drop, tail_is}
use Rattle.base_pq.proofs.rest.Rest.as_slice.Goals as goal

pub returns : goal.returns
returns c =
    let gone = c.self.inside.gone in
    let es = c.self.inside.shared in
    tail_is gone c.as_slice.result.now ∙ ap (drop gone) c.as_slice.ensures
    ∙ sym (entries_of (drop gone es) (rising_drop gone es c.self.invariant.0)) ∙ ap map.entries c.self.view_is
