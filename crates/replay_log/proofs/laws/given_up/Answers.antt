use Rattle.replay_log.proofs.EventLemmas.{run_linked, opened_linked}
use Rattle.replay_log.proofs.EndingLemmas.{steps_untouched, locks_held, lock_goes_back, holds_nothing}
use Rattle.replay_log.specs.Worlds.{run, opened}
use Rattle.replay_log.proofs.laws.given_up.Goals as goal

pub returns-clause-untouched : goal.returns-clause-untouched
returns-clause-untouched g c blocks clock values held events a stripes h =
    steps_untouched (run (opened blocks clock values held) events) a
    (run_linked events (opened blocks clock values held) (opened_linked blocks clock values held stripes)) h

pub returns-clause-locked : goal.returns-clause-locked
returns-clause-locked g c blocks clock values held events a l k stripes h =
    locks_held (run (opened blocks clock values held) events) a l k
    (run_linked events (opened blocks clock values held) (opened_linked blocks clock values held stripes)) h

pub returns-clause-back : goal.returns-clause-back
returns-clause-back g c blocks clock values held events a l k rest stripes at is =
    lock_goes_back (run (opened blocks clock values held) events) a l k rest
    (run_linked events (opened blocks clock values held) (opened_linked blocks clock values held stripes)) at is

pub returns-clause-rests : goal.returns-clause-rests
returns-clause-rests g c blocks clock values held events a stripes at =
    holds_nothing (run (opened blocks clock values held) events) a
    (run_linked events (opened blocks clock values held) (opened_linked blocks clock values held stripes)) at
