use Rattle.client_sessions.proofs.RunLemmas.{each_number_holds_tables, none_gives_up, runs_are_actions}
use Rattle.client_sessions.proofs.laws.runs_are_actions.Goals as goal

pub returns-clause-runs : goal.returns-clause-runs
returns-clause-runs g = runs_are_actions

pub returns-clause-numbers : goal.returns-clause-numbers
returns-clause-numbers g = each_number_holds_tables

pub returns-clause-goes_on : goal.returns-clause-goes_on
returns-clause-goes_on g = none_gives_up
