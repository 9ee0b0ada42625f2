use Rattle.std.proofs.Common.{◌≡◌, ◌≤◌, length}
use Rattle.std.specs.Vec.{vec_capacity}
use Rattle.step_core.specs.Blank.{AreBlank}
use Rattle.step_core.specs.declared.machine.TheConstants.{SEATS}
use Rattle.step_core.proofs.machine.seats.Given as goal

abbrev pub invariant-loop-i : goal.invariant-loop-i
invariant-loop-i l = (length l.actors.items ≡ l.i) × AreBlank l.actors.items × (SEATS ≤ vec_capacity l.actors)
