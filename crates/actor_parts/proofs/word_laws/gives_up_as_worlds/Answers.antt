use Rattle.actor_parts.proofs.ShowsLemmas.{gives_it_up}
use Rattle.actor_parts.proofs.word_laws.gives_up_as_worlds.Goals as goal

pub returns : goal.returns
returns c s = gives_it_up
