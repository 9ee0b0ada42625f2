use Rattle.replay_log.proofs.LogLemmas.{raises_each, keeps_others}
use Rattle.replay_log.proofs.laws.fold_laws.Goals as goal

pub returns-clause-each : goal.returns-clause-each
returns-clause-each g c = raises_each

pub returns-clause-others : goal.returns-clause-others
returns-clause-others g c = keeps_others
