use Rattle.std.proofs.Common.{refl}
use Rattle.step_core.proofs.Keeps.{take_keeps}
use Rattle.step_core.proofs.actor.Actor.take.Goals as goal

pub returns-clause-keeps : goal.returns-clause-keeps
returns-clause-keeps c =
    take_keeps c.args.self.now _ c.args.location c.args.version c.args.i c.requires.place refl refl c.push_back_reserved.ensures.items
    c.push_back_reserved.ensures.len c.push_back_reserved.ensures.capacity refl refl refl
