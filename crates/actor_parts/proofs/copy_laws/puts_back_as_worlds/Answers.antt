use Rattle.actor_parts.proofs.CopyByPartsLemmas.{puts_back}
use Rattle.actor_parts.proofs.copy_laws.puts_back_as_worlds.Goals as goal

pub returns : goal.returns
returns c s = puts_back
