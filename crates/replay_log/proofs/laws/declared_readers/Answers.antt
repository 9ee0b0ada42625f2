use Rattle.replay_log.proofs.DeclaredLemmas.{change_refused, no_sets}
use Rattle.replay_log.proofs.laws.declared_readers.Goals as goal

pub returns-clause-changes : goal.returns-clause-changes
returns-clause-changes g c w a call d e h = change_refused w a call d e h

pub returns-clause-sets : goal.returns-clause-sets
returns-clause-sets g c blocks clock values held events a stripes calling d = no_sets blocks clock values held events a stripes calling d
