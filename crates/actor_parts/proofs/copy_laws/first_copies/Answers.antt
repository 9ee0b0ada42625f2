use Rattle.actor_parts.proofs.FirstLemmas.{first_copies}
use Rattle.actor_parts.proofs.copy_laws.first_copies.Goals as goal

pub returns : goal.returns
returns g c = first_copies
