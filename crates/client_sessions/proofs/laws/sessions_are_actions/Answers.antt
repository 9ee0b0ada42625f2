use Rattle.client_sessions.proofs.SessionLemmas.{ends_as_action, never_gives_up, asks_legal_calls}
use Rattle.client_sessions.proofs.laws.sessions_are_actions.Goals as goal

pub returns-clause-ends : goal.returns-clause-ends
returns-clause-ends g = ends_as_action

pub returns-clause-goes_on : goal.returns-clause-goes_on
returns-clause-goes_on g = never_gives_up

pub returns-clause-legal : goal.returns-clause-legal
returns-clause-legal g = asks_legal_calls
