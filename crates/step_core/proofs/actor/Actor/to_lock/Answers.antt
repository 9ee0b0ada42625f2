use Rattle.step_core.proofs.Keeps.{lock_keeps}
use Rattle.step_core.proofs.actor.Actor.to_lock.Goals as goal

pub returns-in-Free-clause-keeps : goal.returns-in-Free-clause-keeps
returns-in-Free-clause-keeps c =
    lock_keeps c.args.self.now c.args.location c.in-Free.version c.args.i c.requires.place c.requires.inside c.requires.location
    c.in-Free.ensures.version
