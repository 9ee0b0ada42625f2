use Rattle.vacation_core.specs.Plays.{Play}
use Rattle.vacation_core.specs.Running.{AsksOn, HasPosition}
use Rattle.vacation_core.proofs.world.VacWorld.go_on.Given as goal

abbrev pub invariant-loop : goal.invariant-loop
invariant-loop l = ((to : Play) → AsksOn l.i 0 l.fn.self to → AsksOn l.i l.counter l.self to) × HasPosition l.i l.self
