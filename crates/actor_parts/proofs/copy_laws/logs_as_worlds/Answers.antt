use Rattle.actor_parts.proofs.LogLemmas.{log_editions, log_is, log_within}
use Rattle.actor_parts.proofs.copy_laws.logs_as_worlds.Goals as goal

pub returns-clause-log : goal.returns-clause-log
returns-clause-log g c w a k b f copy is = log_is b is.copied.0.0 _ _ copy is.copied.0.2

pub returns-clause-within : goal.returns-clause-within
returns-clause-within g c k b outcomes base pos is = log_within k b outcomes base pos is

pub returns-clause-editions : goal.returns-clause-editions
returns-clause-editions g c blocks clock values held events k b outcomes base stripes suit here shows =
    log_editions blocks clock values held events k b outcomes base stripes suit here shows
