use Rattle.tx_actor.proofs.LoadInWorldLemmas.{keeps_call, may_hear}
use Rattle.actor_parts.proofs.LoadInWorldLemmas.{loads_reached}
use Rattle.tx_actor.proofs.laws.loads_as_worlds.Goals as goal

pub returns-clause-reached : goal.returns-clause-reached
returns-clause-reached g c = loads_reached

pub returns-clause-heard : goal.returns-clause-heard
returns-clause-heard g c = may_hear

pub returns-clause-kept : goal.returns-clause-kept
returns-clause-kept g c = keeps_call
