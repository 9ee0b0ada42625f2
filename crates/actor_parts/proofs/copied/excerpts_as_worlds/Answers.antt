use Rattle.actor_parts.proofs.AfterGateLemmas.{copies_as_reached}
use Rattle.actor_parts.proofs.copied.excerpts_as_worlds.Goals as goal

pub returns : goal.returns
returns g c = copies_as_reached
