use Rattle.actor_parts.proofs.RequestLemmas.{keeps_then}
use Rattle.actor_parts.proofs.ending.cancel.Goals as goal

pub returns-clause-keeps : goal.returns-clause-keeps
returns-clause-keeps c =
    keeps_then c.args.words.now c.cancel_locks.new.words c.abort.new.words c.cancel_locks.ensures.keeps c.abort.ensures.keeps
