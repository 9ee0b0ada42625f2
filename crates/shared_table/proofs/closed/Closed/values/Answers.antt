use Rattle.std.proofs.Common.{[], ◌∷◌, ◌++◌, sym, ap, ◌∙◌}
use Rattle.shared_table.specs.Ends.{row_of}
use Rattle.shared_table.proofs.LayoutLemmas.{one_value}
use Rattle.shared_table.proofs.closed.Closed.values.Goals as goal

pub loop-word-preserved : goal.loop-word-preserved
loop-word-preserved g c =
    c.in_ok-push.ensures.items
    ∙ (ap (λ v. c.loop-word.words.items ++ v ∷ []) c.word.ensures
    ∙ sym (one_value c.args.self.now.locations c.loop-word.word (row_of c.args.self.now) c.loop-word.words.items c.loop-word.invariant))
