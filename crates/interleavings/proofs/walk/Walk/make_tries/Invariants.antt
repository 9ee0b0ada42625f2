use Rattle.step_world.specs.Parts.{HasWorld}
use Rattle.interleavings.proofs.walk.Walk.make_tries.Given as goal

abbrev pub invariant-loop-try : goal.invariant-loop-try
invariant-loop-try l = HasWorld l.self.parts
