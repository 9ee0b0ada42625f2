use Rattle.std.proofs.Common.{◌≡◌, length}
use Rattle.workers.specs.Deals.{in_queues}
use Rattle.workers.proofs.DealLemmas.{AreTaken}
use Rattle.workers.proofs.deals.gather.Given as goal

abbrev pub invariant-items : goal.invariant-items
invariant-items g l = record {
  many : length l.items.items ≡ l.counter;
  taken : AreTaken (length l.fn.queues.items) l.turn l.items.items (in_queues l.fn.queues.items) (in_queues l.queues.items);
}
