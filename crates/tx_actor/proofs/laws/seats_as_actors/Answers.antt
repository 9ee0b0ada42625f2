use Rattle.tx_actor.proofs.SeatByStageLemmas.{seats_actors}
use Rattle.tx_actor.proofs.laws.seats_as_actors.Goals as goal

pub returns : goal.returns
returns g c = seats_actors
