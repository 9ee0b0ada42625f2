use Rattle.std.proofs.Common.{ap, ◌∙◌}
use Rattle.seq_model.specs.Entries.{inserts}
use Rattle.conflict.proofs.RoomMapLemmas.{inserts_distinct}
use Rattle.conflict.proofs.table.RoomMap.to_entries.Goals as goal

pub loop-key-init : goal.loop-key-init
loop-key-init g c =
    let items = c.into_iter-key-iterator.ensures.into_iter_gives ∙ c.iter-key-items.ensures.rest in
    (λ i. inserts (c.new-entries.ensures i) (items i)) ∙ inserts_distinct c.self.inside.entries.entries c.iter-key-items.ensures.unique
    ∙ ap (λ r. r.contents) c.self.view_is
