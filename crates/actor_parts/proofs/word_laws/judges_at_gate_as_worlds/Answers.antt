use Rattle.actor_parts.proofs.ShowsLemmas.{copies_for_call}
use Rattle.actor_parts.proofs.word_laws.judges_at_gate_as_worlds.Goals as goal

pub returns : goal.returns
returns c s = copies_for_call
