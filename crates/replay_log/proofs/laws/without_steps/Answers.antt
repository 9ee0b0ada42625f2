use Rattle.replay_log.proofs.StillLemmas.{ask_at_still, starve_still}
use Rattle.replay_log.proofs.laws.without_steps.Goals as goal

pub returns-clause-asked : goal.returns-clause-asked
returns-clause-asked g c w a q = ask_at_still w a (w.seats a) (w.seats a).stage q

pub returns-clause-starved : goal.returns-clause-starved
returns-clause-starved g c w a = starve_still w a (w.seats a) (w.seats a).stage
