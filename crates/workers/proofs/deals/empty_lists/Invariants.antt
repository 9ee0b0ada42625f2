use Rattle.workers.specs.Deals.{in_lists}
use Rattle.workers.proofs.DealLemmas.{AreEmpty}
use Rattle.workers.proofs.deals.empty_lists.Given as goal

abbrev pub invariant-lists : goal.invariant-lists
invariant-lists g l = AreEmpty l.counter (in_lists l.lists.items)
