use Rattle.actor_parts.proofs.CopyInWorldLemmas.{answers_held}
use Rattle.actor_parts.proofs.copy_laws.answers_held_as_worlds.Goals as goal

pub returns : goal.returns
returns c s = answers_held
