use Rattle.actor_laws.proofs.Guards.{try_allowed, put_allowed, home_allowed}
use Rattle.actor_laws.proofs.step_laws.gates_are_due.Goals as goal

pub returns : goal.returns
returns g c = record { tried = try_allowed; back = put_allowed; home = home_allowed }
