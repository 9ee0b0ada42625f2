use Rattle.actor_parts.proofs.StepLemmas.{are_steps}
use Rattle.actor_parts.proofs.word_laws.steps_as_worlds.Goals as goal

pub returns : goal.returns
returns c s = are_steps
