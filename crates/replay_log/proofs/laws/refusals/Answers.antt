use Rattle.replay_log.proofs.RefusalLemmas.{world_causes, keeps_cause, tells_cause}
use Rattle.replay_log.proofs.laws.refusals.Goals as goal

pub returns-clause-causes : goal.returns-clause-causes
returns-clause-causes g c blocks clock values held events a stripes on = world_causes blocks clock values held events a stripes on

pub returns-clause-stays : goal.returns-clause-stays
returns-clause-stays g c w a e q = keeps_cause w a e q

pub returns-clause-told : goal.returns-clause-told
returns-clause-told g c w a e = tells_cause w a e
