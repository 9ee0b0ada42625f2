use Rattle.replay_log.proofs.RequestLemmas.{actions_of}
use Rattle.replay_log.proofs.laws.requests.Goals as goal

pub returns : goal.returns
returns g c = record { actions = λ blocks clock values held events. actions_of blocks clock values held events }
