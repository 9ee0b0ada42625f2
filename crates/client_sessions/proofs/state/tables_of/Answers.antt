use Rattle.client_sessions.proofs.TablesLemmas.{answers_held, answers_indexes, answers_inverse, answers_refused}
use Rattle.client_sessions.proofs.state.tables_of.Goals as goal

pub returns-clause-held : goal.returns-clause-held
returns-clause-held c = answers_held c.args.state.now _ _ c.words.ensures c.held.ensures.held c.tables_in.result c.tables_in.ensures.ok

pub returns-clause-inverse : goal.returns-clause-inverse
returns-clause-inverse c =
    answers_inverse c.args.state.now _ _ c.words.ensures c.held.ensures.held c.tables_in.result c.tables_in.ensures.ok

pub returns-clause-refused : goal.returns-clause-refused
returns-clause-refused c =
    answers_refused c.args.state.now _ _ c.words.ensures c.held.ensures.held c.tables_in.result c.tables_in.ensures.refused

pub returns-clause-indexes : goal.returns-clause-indexes
returns-clause-indexes c =
    answers_indexes c.args.state.now _ _ c.words.ensures c.held.ensures.held c.tables_in.result c.tables_in.ensures.ok c.held.ensures.within
