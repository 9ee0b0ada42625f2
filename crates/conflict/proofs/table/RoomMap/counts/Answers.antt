use Rattle.std.proofs.Common.{ap, length, slice_index_or, ◌∙◌, arith}
use Rattle.std.proofs.lemmas.List.{length-replicate}
use Rattle.conflict.specs.Counts.{stripe_counts}
use Rattle.conflict.proofs.CountLemmas.{counted, counted_all, no_counts}
use Rattle.conflict.proofs.RoomMapLemmas.{fresh_distinct}
use Rattle.conflict.proofs.table.RoomMap.counts.Goals as goal

pub loop-key-init : goal.loop-key-init
loop-key-init g c =
    let n = c.args.stripes in
    let items = c.into_iter-key-iterator.ensures.into_iter_gives ∙ c.iter-key-items.ensures.rest in
    let zeros = c.in_ok-counts.ensures in (
      (λ i. counted n (items i) (zeros i)) ∙ counted_all n c.self.inside.entries.entries (fresh_distinct _ c.iter-key-items.ensures.unique)
          ∙ ap (λ r. stripe_counts n r.contents) c.self.view_is,
      ap length zeros ∙ length-replicate n 0,
      λ p.
          let zero = ap (λ xs. slice_index_or xs p 0) zeros ∙ no_counts n p in
          let len = ap length items in
          let fits = c.iter-key-items.ensures.fits in
          omega arith,
    )
