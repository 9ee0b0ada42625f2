use Rattle.step_world.specs.Parts.{HasWorld}
use Rattle.interleavings.proofs.running.run_along.Given as goal

abbrev pub invariant-loop-choice : goal.invariant-loop-choice
invariant-loop-choice l = HasWorld l.walk.parts

abbrev pub invariant-loop-step : goal.invariant-loop-step
invariant-loop-step l = HasWorld l.walk.parts
