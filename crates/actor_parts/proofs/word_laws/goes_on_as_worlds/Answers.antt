use Rattle.actor_parts.proofs.GuardedLemmas.{goes_on}
use Rattle.actor_parts.proofs.word_laws.goes_on_as_worlds.Goals as goal

pub returns : goal.returns
returns g c blocks clock values held events a stripes = goes_on blocks clock values held events a stripes
