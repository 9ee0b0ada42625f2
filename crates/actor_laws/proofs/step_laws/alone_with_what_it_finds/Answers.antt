use Rattle.actor_laws.proofs.Alone.{alone}
use Rattle.actor_laws.proofs.step_laws.alone_with_what_it_finds.Goals as goal

pub returns : goal.returns
returns g c = alone
