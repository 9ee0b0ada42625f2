use Rattle.actor_parts.proofs.TakeBackLemmas.{taken_goes_back}
use Rattle.actor_parts.proofs.taking.taken_back.Goals as goal

pub returns : goal.returns
returns g c = taken_goes_back
