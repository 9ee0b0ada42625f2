use Rattle.std.proofs.Common.{length, sym, ap, ◌∙◌}
use Rattle.seq_model.proofs.EntryLemmas.{items_are}
use Rattle.base_pq.proofs.sorted.Sorted.len.Goals as goal

pub returns : goal.returns
returns c =
    c.len.ensures ∙ c.self.inside.items.ok.0
    ∙ sym (ap length (items_are _ c.self.invariant _ (ap (λ r. r.elements) c.self.view_is) 0))
