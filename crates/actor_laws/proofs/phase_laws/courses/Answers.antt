use Rattle.actor_laws.proofs.CourseLemmas.{steps_come}
use Rattle.actor_laws.proofs.phase_laws.courses.Goals as goal

pub returns : goal.returns
returns g c = steps_come
