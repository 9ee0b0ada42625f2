use Rattle.replay_log.proofs.ReplyLemmas.{asked_made, stepped_made, stepped_kept, asked_kept, starved_kept}
use Rattle.replay_log.proofs.laws.calls.Goals as goal

pub returns-clause-asked : goal.returns-clause-asked
returns-clause-asked g c w a t op at = asked_made w a t op at

pub returns-clause-stepped : goal.returns-clause-stepped
returns-clause-stepped g c w a call is = stepped_made w a call is

pub returns-clause-kept : goal.returns-clause-kept
returns-clause-kept g c w a is = stepped_kept w a is

pub returns-clause-requested : goal.returns-clause-requested
returns-clause-requested g c w a q other = asked_kept w a q other

pub returns-clause-starved : goal.returns-clause-starved
returns-clause-starved g c w a = starved_kept w a
