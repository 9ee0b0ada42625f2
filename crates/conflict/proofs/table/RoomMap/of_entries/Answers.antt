use Rattle.std.proofs.Common.{◌≤◌, ap, sym, ◌∙◌, length, subst}
use Rattle.std.specs.FinMap.{len-entries}
use Rattle.seq_model.specs.Entries.{inserts}
use Rattle.seq_model.proofs.EntryLemmas.{inserts_all}
use Rattle.conflict.proofs.table.RoomMap.of_entries.Goals as goal

pub loop-key-init : goal.loop-key-init
loop-key-init g c =
    let empty_now = c.in_ok-reserve.ensures.contents ∙ c.new-table.ensures in
    let items = c.into_iter-key-iterator.ensures.into_iter_gives ∙ c.into_iter-key-items.ensures in (
      (λ i. inserts (empty_now i) (items i)) ∙ inserts_all c.args.entries,
      subst (λ n. n ≤ c.reserve.new.self.room) (c.len.ensures ∙ len-entries c.args.entries ∙ ap length (sym items))
          c.in_ok-reserve.ensures.ok,
    )
