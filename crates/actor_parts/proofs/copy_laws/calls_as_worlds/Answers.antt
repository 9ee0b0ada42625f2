use Rattle.actor_parts.proofs.CallingLemmas.{calls_as_reached}
use Rattle.actor_parts.proofs.copy_laws.calls_as_worlds.Goals as goal

pub returns : goal.returns
returns g c = calls_as_reached
