use Rattle.actor_laws.proofs.Alike.{spot_same, action_same, deed_same}
use Rattle.actor_laws.proofs.step_laws.due_by_own_part.Goals as goal

pub returns : goal.returns
returns g c = record { spot = spot_same; action = action_same; deed = deed_same }
