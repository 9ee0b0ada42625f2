use Rattle.std.proofs.Common.{◌≡◌, ◌++◌, length}
use Rattle.std.specs.Vec.Iter.{into_iter_items, into_iter_len}
use Rattle.actor_parts.specs.Openings.{AreOpened}
use Rattle.actor_parts.proofs.opening.open_bases.Given as goal

abbrev pub invariant-loop-collection : goal.invariant-loop-collection
invariant-loop-collection g l =
    (l.yielded ++ into_iter_items l.collection-iterator ≡ l.fn.held.items)
    × AreOpened l.stripes l.yielded l.bases.items
    × (into_iter_len l.collection-iterator ≡ length (into_iter_items l.collection-iterator))
