use Rattle.first_transaction.specs.Opening.{two_ones}
use Rattle.step_world.specs.Serial.{IsFrom}
use Rattle.first_transaction.proofs.ask.Given as goal

abbrev pub invariant-loop-step : goal.invariant-loop-step
invariant-loop-step l = IsFrom two_ones l.fn.world.parts → IsFrom two_ones l.world.parts
