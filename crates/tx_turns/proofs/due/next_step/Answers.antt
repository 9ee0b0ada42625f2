use Rattle.tx_turns.proofs.NextStepLemmas.{at_place}
use Rattle.tx_turns.proofs.due.next_step.Goals as goal

pub returns-in-Begin-clause-deed : goal.returns-in-Begin-clause-deed
returns-in-Begin-clause-deed c = (_, at_place c.args.actor.now _ c.in-Begin.is)

pub returns-in-Leave-clause-deed : goal.returns-in-Leave-clause-deed
returns-in-Leave-clause-deed c = (_, at_place c.args.actor.now _ c.in-Leave.is)

pub returns-in-Close-clause-deed : goal.returns-in-Close-clause-deed
returns-in-Close-clause-deed c = (_, at_place c.args.actor.now _ c.in-Close.is)

pub returns-in-Look-clause-deed : goal.returns-in-Look-clause-deed
returns-in-Look-clause-deed c = (_, at_place c.args.actor.now _ c.in-Look.is)

pub returns-in-Fetch-clause-deed : goal.returns-in-Fetch-clause-deed
returns-in-Fetch-clause-deed c = (_, at_place c.args.actor.now _ c.in-Fetch.is)

pub returns-in-Again-clause-deed : goal.returns-in-Again-clause-deed
returns-in-Again-clause-deed c = (_, at_place c.args.actor.now _ c.in-Again.is)
