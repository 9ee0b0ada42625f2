use Rattle.std.proofs.Common.{◌∙◌}
use Rattle.seq_model.specs.Entries.{inserts}
use Rattle.seq_model.proofs.EntryLemmas.{inserts_all}
use Rattle.seq_model.proofs.entries.Entries.try_copy.Goals as goal

pub loop-key-init : goal.loop-key-init
loop-key-init g c =
    let items = c.into_iter-key-iterator.ensures.into_iter_gives ∙ c.iter-key-items.ensures in
    (λ i. inserts (c.new-copy.ensures i) (items i)) ∙ inserts_all c.args.self.now
