use Rattle.std.proofs.Common.{◌≤◌, ap, sym, ◌∙◌, length, subst}
use Rattle.seq_model.specs.Entries.{inserts}
use Rattle.conflict.proofs.RoomMapLemmas.{inserts_distinct}
use Rattle.conflict.proofs.table.RoomMap.copy_from.Goals as goal

pub loop-key-init : goal.loop-key-init
loop-key-init g c =
    let items = c.into_iter-key-iterator.ensures.into_iter_gives ∙ c.iter-key-items.ensures.rest in
    let empty_now = c.in_ok-reserve.ensures.contents ∙ c.clear.ensures.contents in (
      (λ i. inserts (empty_now i) (items i)) ∙ inserts_distinct c.other.inside.entries.entries c.iter-key-items.ensures.unique
          ∙ ap (λ r. r.contents) c.other.view_is,
      subst (λ n. n ≤ c.reserve.new.self.room) (c.len.ensures.len ∙ ap length (sym items)) c.in_ok-reserve.ensures.ok,
    )
