use Rattle.replay_log.proofs.SerialLemmas.{shown_state}
use Rattle.replay_log.proofs.TraceLemmas.{steps_end, asked_adds, starved_adds}
use Rattle.replay_log.proofs.laws.traces.Goals as goal

pub returns-clause-state : goal.returns-clause-state
returns-clause-state g c blocks clock values held events stripes suit none = shown_state blocks stripes clock values held suit events none

pub returns-clause-commits : goal.returns-clause-commits
returns-clause-commits g c w a = (steps_end w a).0

pub returns-clause-ends : goal.returns-clause-ends
returns-clause-ends g c w a = (steps_end w a).1

pub returns-clause-asked : goal.returns-clause-asked
returns-clause-asked g c w a q = asked_adds w a q

pub returns-clause-starved : goal.returns-clause-starved
returns-clause-starved g c w a = starved_adds w a
