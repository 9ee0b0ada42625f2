use Rattle.actor_parts.proofs.JudgedLemmas.{is_judged}
use Rattle.actor_parts.proofs.word_laws.judges_as_worlds.Goals as goal

pub returns : goal.returns
returns c s = is_judged
