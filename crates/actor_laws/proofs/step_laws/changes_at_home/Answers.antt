use Rattle.actor_laws.proofs.StepResult.{same_changes, home_same}
use Rattle.actor_laws.proofs.step_laws.changes_at_home.Goals as goal

pub returns : goal.returns
returns g c = record { parts = λ k frame. same_changes k frame; homes = λ a k v w. home_same a v w k }
