use Rattle.actor_laws.proofs.StepResult.{try_turned, put_turned, home_turned}
use Rattle.actor_laws.proofs.step_laws.gate_becomes.Goals as goal

pub returns : goal.returns
returns g c = record { tried = λ v a. try_turned a v; back = λ v a. put_turned a v; home = λ v a. home_turned a v }
