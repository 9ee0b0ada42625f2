use Rattle.step_world.specs.Parts.{HasWorld}
use Rattle.interleavings.proofs.walk.Walk.ask_all.Given as goal

abbrev pub invariant-loop-index : goal.invariant-loop-index
invariant-loop-index l = HasWorld l.self.parts
