use Rattle.session_text.specs.Plays.{HasPlayed, Keeps}
use Rattle.session_text.proofs.PlayLemmas.{AreQuietSteps}
use Rattle.session_text.proofs.run.Runner.steps.Given as goal

abbrev pub invariant-loop-taken : goal.invariant-loop-taken
invariant-loop-taken l = HasPlayed (Keeps (AreQuietSteps l.actor l._taken) l.fn.self.waiting.items l.self.waiting.items)
    l.fn.self.world.parts l.fn.self.transcript l.self.world.parts l.self.transcript
