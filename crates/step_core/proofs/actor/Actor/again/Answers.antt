use Rattle.std.proofs.Common.{refl}
use Rattle.step_core.proofs.Keeps.{read_keeps}
use Rattle.step_core.proofs.actor.Actor.again.Goals as goal

pub returns-in-Free-clause-keeps : goal.returns-in-Free-clause-keeps
returns-in-Free-clause-keeps c =
    read_keeps c.args.self.now _ c.args.location c.args.version c.args.value c.requires.place refl refl c.keep.ensures.entries refl refl
