use Rattle.std.proofs.Common.{◌≡◌, ◌+◌, drop}
use Rattle.vac_model.proofs.queue.Queue.take_off.Given as goal

abbrev pub invariant-loop : goal.invariant-loop
invariant-loop l = record {
  head : l.self.head ≡ l.fn.self.head + l.fn.off;
  tickets : l.self.tickets ≡ drop l.counter l.fn.self.tickets;
}
