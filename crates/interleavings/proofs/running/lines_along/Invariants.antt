use Rattle.step_world.specs.Parts.{HasWorld}
use Rattle.interleavings.proofs.running.lines_along.Given as goal

abbrev pub invariant-loop-actor : goal.invariant-loop-actor
invariant-loop-actor l = HasWorld l.walk.parts
