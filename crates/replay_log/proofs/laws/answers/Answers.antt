use Rattle.replay_log.proofs.EventLemmas.{run_linked, opened_linked}
use Rattle.replay_log.proofs.AnswerLemmas.{refused_request, refused_step, commit_goes_on, starves}
use Rattle.replay_log.specs.Worlds.{run, opened}
use Rattle.replay_log.proofs.laws.answers.Goals as goal

pub returns-clause-asked : goal.returns-clause-asked
returns-clause-asked g c w a q h = refused_request w a q h

pub returns-clause-stepped : goal.returns-clause-stepped
returns-clause-stepped g c blocks clock values held events a stripes =
    refused_step (run (opened blocks clock values held) events) a
    (run_linked events (opened blocks clock values held) (opened_linked blocks clock values held stripes))

pub returns-clause-goes_on : goal.returns-clause-goes_on
returns-clause-goes_on g c w a h q = commit_goes_on w a h q

pub returns-clause-starved : goal.returns-clause-starved
returns-clause-starved g c w a = starves w a
