use Rattle.session_text.specs.Plays.{HasPlayed, Keeps}
use Rattle.session_text.proofs.PlayLemmas.{AreTurnsTo}
use Rattle.session_text.proofs.run.Runner.alternate.Given as goal

abbrev pub invariant-loop-taken : goal.invariant-loop-taken
invariant-loop-taken l = HasPlayed (Keeps (λ es told. AreTurnsTo l._taken l.first l.second l.fn.self.waiting.items es told l.actor l.other)
    l.fn.self.waiting.items l.self.waiting.items) l.fn.self.world.parts l.fn.self.transcript l.self.world.parts l.self.transcript
