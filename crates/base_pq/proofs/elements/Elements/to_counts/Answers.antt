use Rattle.std.proofs.Common.{◌≡◌, sym, subst, ◌∙◌}
use Rattle.seq_model.specs.Counts.{HasNoZero}
use Rattle.seq_model.specs.Entries.{inserts}
use Rattle.seq_model.proofs.EntryLemmas.{inserts_all}
use Rattle.base_pq.proofs.elements.Elements.to_counts.Goals as goal

pub counts_of-requires : goal.counts_of-requires
counts_of-requires c =
    let is : c.insert_all.new.entries ≡ c.args.self.now.elements =
    c.in_ok-insert_all.ensures ∙ (λ i. inserts (c.new-entries.ensures i) ((c.as_slice.ensures.value ∙ c.in_ok-all.ensures.all) i))
    ∙ inserts_all c.args.self.now.elements in
    subst HasNoZero (sym is) c.to_entries.ensures.no_zero

pub returns : goal.returns
returns c =
    c.counts_of.ensures ∙ c.in_ok-insert_all.ensures
    ∙ (λ i. inserts (c.new-entries.ensures i) ((c.as_slice.ensures.value ∙ c.in_ok-all.ensures.all) i))
    ∙ inserts_all c.args.self.now.elements
