use Rattle.tx_actor.proofs.OwnLoadLemmas.{loads_own}
use Rattle.tx_actor.proofs.laws.loads_stay_own.Goals as goal

pub returns : goal.returns
returns g c = loads_own c.copies_stay.ensures.stays c.copies_stay.ensures.joins c.copies_stay.ensures.events
