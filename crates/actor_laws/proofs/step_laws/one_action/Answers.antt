use Rattle.actor_laws.proofs.OneStep.{one_step}
use Rattle.actor_laws.proofs.step_laws.one_action.Goals as goal

pub returns : goal.returns
returns g c = one_step
