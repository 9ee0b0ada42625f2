use Rattle.actor_laws.proofs.LimitLemmas.{within_limits}
use Rattle.actor_laws.proofs.limit_laws.bases_are_within_limits.Goals as goal

pub returns : goal.returns
returns g c blocks clock values held events stripes suit = within_limits blocks stripes clock values held suit events
