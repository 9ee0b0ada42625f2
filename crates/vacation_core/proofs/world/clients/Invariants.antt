use Rattle.std.proofs.Common.{◌≡◌, length}
use Rattle.vacation_core.specs.PlayOpenings.{AreNew}
use Rattle.vacation_core.proofs.world.clients.Given as goal

abbrev pub invariant-loop : goal.invariant-loop
invariant-loop l = (length l.clients.items ≡ l.counter) × AreNew l.clients.items
