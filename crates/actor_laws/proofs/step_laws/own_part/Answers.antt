use Rattle.actor_laws.proofs.OwnActions.{own_action}
use Rattle.actor_laws.proofs.OwnEvents.{own_event}
use Rattle.actor_laws.proofs.step_laws.own_part.Goals as goal

pub returns : goal.returns
returns g c = record { events = own_event; actions = own_action }
