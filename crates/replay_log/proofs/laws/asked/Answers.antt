use Rattle.replay_log.proofs.AskLemmas.{under_way, while_open, while_idle, no_such, too_long, only_abort}
use Rattle.replay_log.proofs.EventLemmas.{run_linked, opened_linked}
use Rattle.replay_log.specs.Worlds.{run, opened}
use Rattle.replay_log.proofs.laws.asked.Goals as goal

pub returns-clause-under_way : goal.returns-clause-under_way
returns-clause-under_way g c w a q h = under_way w a q h

pub returns-clause-open : goal.returns-clause-open
returns-clause-open g c w a at = while_open w a at

pub returns-clause-idle : goal.returns-clause-idle
returns-clause-idle g c w a q at h k = while_idle w a q at h k

pub returns-clause-no_such : goal.returns-clause-no_such
returns-clause-no_such g c w a t op at h = no_such w a t op at h

pub returns-clause-too_long : goal.returns-clause-too_long
returns-clause-too_long g c w a t op at h long = too_long w a t op at h long

pub returns-clause-given_up : goal.returns-clause-given_up
returns-clause-given_up g c blocks clock values held events a q stripes going ends =
    only_abort (run (opened blocks clock values held) events) a q
    (run_linked events (opened blocks clock values held) (opened_linked blocks clock values held stripes)) going ends
