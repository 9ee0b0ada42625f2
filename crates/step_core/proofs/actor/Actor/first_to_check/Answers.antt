use Rattle.step_core.proofs.Lists.{quick, slow}
use Rattle.step_core.proofs.actor.Actor.first_to_check.Goals as goal

pub returns-then-self-clock-clause-left : goal.returns-then-self-clock-clause-left
returns-then-self-clock-clause-left c =
    quick c.args.self.now c.len.result c.args.clock c.if-self-clock.true c.requires.positive c.len.ensures

pub returns-else-self-clock-clause-left : goal.returns-else-self-clock-clause-left
returns-else-self-clock-clause-left c = slow c.args.self.now c.args.clock c.if-self-clock.false
