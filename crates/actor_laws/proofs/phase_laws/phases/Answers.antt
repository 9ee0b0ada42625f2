use Rattle.actor_laws.proofs.KnownStageLemmas.{asks_move, steps_move}
use Rattle.actor_laws.proofs.phase_laws.phases.Goals as goal

pub returns-clause-steps : goal.returns-clause-steps
returns-clause-steps g c = steps_move

pub returns-clause-asks : goal.returns-clause-asks
returns-clause-asks g c = asks_move
