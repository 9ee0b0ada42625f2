use Rattle.step_world.specs.Parts.{HasWorld}
use Rattle.interleavings.proofs.walk.Walk.ask.Given as goal

abbrev pub invariant-loop-asked : goal.invariant-loop-asked
invariant-loop-asked l = HasWorld l.self.parts
