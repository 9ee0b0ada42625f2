use Rattle.std.proofs.Common.{sym, ◌∙◌}
use Rattle.seq_model.proofs.EntryLemmas.{items_are}
use Rattle.seq_model.proofs.entries.Entries.iter.Goals as goal

pub returns : goal.returns
returns g c = c.iter.ensures.rest ∙ sym (items_are _ c.self.invariant _ c.self.view_is 0)
