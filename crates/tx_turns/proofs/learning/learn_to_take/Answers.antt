use Rattle.std.proofs.Common.{subst, sym, refl}
use Rattle.std.proofs.Common.{Ok, None}
use Rattle.tx_turns.specs.NextStep.{Learns}
use Rattle.tx_turns.proofs.NextStepLemmas.{learns_taken, learns_lost}
use Rattle.tx_turns.proofs.learning.learn_to_take.Goals as goal

pub returns-then-found-version-clause-learns : goal.returns-then-found-version-clause-learns
returns-then-found-version-clause-learns c = subst (λ n. Learns c.args.actor.now n c.take.new.self (Ok None)) (sym c.if-found-version.true)
    (learns_taken c.args.actor.now c.take.new.self c.args.location c.args.version c.args.i c.requires.place c.take.ensures.actor)

pub returns-else-found-version-clause-learns : goal.returns-else-found-version-clause-learns
returns-else-found-version-clause-learns c =
    learns_lost c.args.actor.now _ c.args.location c.args.version c.args.i c.args.found c.requires.place
    c.if-found-version.false refl
