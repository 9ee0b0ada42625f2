use Rattle.actor_laws.proofs.StepAnswers.{told_by_number, told_without}
use Rattle.actor_laws.proofs.step_laws.told_by_what_is_found.Goals as goal

pub returns : goal.returns
returns g = record { found = told_by_number; nothing = told_without }
