use Rattle.client_sessions.proofs.TablesLemmas.{same_tables}
use Rattle.client_sessions.proofs.laws.states_tell_tables.Goals as goal

pub returns : goal.returns
returns g = same_tables
