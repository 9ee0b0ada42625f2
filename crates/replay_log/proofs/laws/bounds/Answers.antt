use Rattle.replay_log.proofs.SerialLemmas.{numbers_past, editions_past}
use Rattle.replay_log.proofs.laws.bounds.Goals as goal

pub returns-clause-numbers : goal.returns-clause-numbers
returns-clause-numbers g c blocks clock values held events stripes suit = numbers_past blocks stripes clock values held suit events

pub returns-clause-editions : goal.returns-clause-editions
returns-clause-editions g c blocks clock values held events l stripes suit pl =
    editions_past blocks stripes clock values held suit events l pl
