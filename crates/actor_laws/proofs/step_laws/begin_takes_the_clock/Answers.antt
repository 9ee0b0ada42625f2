use Rattle.actor_laws.proofs.StepAnswers.{begins}
use Rattle.actor_laws.proofs.step_laws.begin_takes_the_clock.Goals as goal

pub returns : goal.returns
returns g c = begins
