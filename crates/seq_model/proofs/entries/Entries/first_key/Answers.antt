use Rattle.std.proofs.Common.{sym, ap, ◌∙◌}
use Rattle.seq_model.specs.Counts.{first_key}
use Rattle.seq_model.proofs.EntryLemmas.{items_are}
use Rattle.seq_model.proofs.TreeLemmas.{first_is, first_none}
use Rattle.seq_model.proofs.entries.Entries.first_key.Goals as goal

pub returns-in-Some : goal.returns-in-Some
returns-in-Some g c =
    first_is c.self.inside.tree.entries _ c.in-Some.ensures.first ∙ ap first_key (sym (items_are _ c.self.invariant _ c.self.view_is 0))

pub returns-in-None : goal.returns-in-None
returns-in-None g c =
    first_none c.self.inside.tree.entries c.in-None.ensures.variant.1 ∙ ap first_key (sym (items_are _ c.self.invariant _ c.self.view_is 0))
