use Rattle.actor_parts.proofs.ShowsLemmas.{reads_next}
use Rattle.actor_parts.proofs.word_laws.reads_next_as_worlds.Goals as goal

pub returns : goal.returns
returns c s = reads_next
