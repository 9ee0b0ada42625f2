use Rattle.replay_log.proofs.GuardLemmas.{world_allows}
use Rattle.replay_log.proofs.laws.guards.Goals as goal

pub returns : goal.returns
returns g c = record { allowed = λ blocks clock values held events a stripes. world_allows blocks clock values held events a stripes }
