use Rattle.std.proofs.Common.{◌≡◌, ◌++◌, length}
use Rattle.std.specs.Vec.Iter.{into_iter_items}
use Rattle.workers.specs.Deals.{AreDealt, in_lists}
use Rattle.workers.proofs.DealLemmas.{IsTurn}
use Rattle.workers.proofs.deals.deal.Given as goal

abbrev pub invariant-items : goal.invariant-items
invariant-items g l = record {
  all : l.yielded ++ into_iter_items l.item-iterator ≡ l.fn.items.items;
  turn : IsTurn l.count l.turn (length l.yielded);
  dealt : AreDealt l.count l.yielded (in_lists l.lists.items);
}
