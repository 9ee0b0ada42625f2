use Rattle.actor_parts.proofs.GoingLemmas.{copies_reached}
use Rattle.actor_parts.proofs.copied.copies_go_on.Goals as goal

pub returns : goal.returns
returns g c = copies_reached
