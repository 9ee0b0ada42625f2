use Rattle.actor_parts.proofs.AcceptsLemmas.{accepts}
use Rattle.actor_parts.proofs.word_laws.accepts_as_worlds.Goals as goal

pub returns : goal.returns
returns c s = accepts
