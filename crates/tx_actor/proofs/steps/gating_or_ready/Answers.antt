use Rattle.std.proofs.Common.{sym, ◌∙◌}
use Rattle.tx_actor.proofs.RunsLemmas.{gates_none, gates_some}
use Rattle.tx_actor.proofs.steps.gating_or_ready.Goals as goal

pub returns-then-has_none-clause-stage : goal.returns-then-has_none-clause-stage
returns-then-has_none-clause-stage g c s = gates_none c.args.homes.items (sym c.has_none.ensures ∙ c.if-has_none.true)

pub returns-clause-stage : goal.returns-clause-stage
returns-clause-stage g c s = gates_some c.args.homes.items (sym c.has_none.ensures ∙ c.if-has_none.false)
