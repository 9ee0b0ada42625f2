use Rattle.tx_actor.proofs.ReadingLemmas.{loads_keep}
use Rattle.tx_actor.proofs.laws.loads_keep_running.Goals as goal

pub returns : goal.returns
returns g c = loads_keep
