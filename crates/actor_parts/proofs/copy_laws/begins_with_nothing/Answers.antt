use Rattle.actor_parts.proofs.BegunLemmas.{begins_with_nothing}
use Rattle.actor_parts.proofs.copy_laws.begins_with_nothing.Goals as goal

pub returns : goal.returns
returns g c = begins_with_nothing
