use Rattle.actor_laws.proofs.AloneLemmas.{never_refused}
use Rattle.actor_laws.proofs.alone_laws.alone.Goals as goal

pub returns : goal.returns
returns g c = never_refused
