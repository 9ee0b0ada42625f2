use Rattle.actor_laws.proofs.Others.{others}
use Rattle.actor_laws.proofs.step_laws.others_stand.Goals as goal

pub returns : goal.returns
returns g c = others
