use Rattle.std.proofs.Common.{◌≡◌, length}
use Rattle.step_world.specs.Openings.{AreIdle}
use Rattle.step_world.proofs.opening.actors.Given as goal

abbrev pub invariant-loop : goal.invariant-loop
invariant-loop g l = (length l.actors.items ≡ l.counter) × AreIdle l.actors.items
