use Rattle.std.proofs.Common.{ℕ, ◌<◌, get_or}
use Rattle.vac_model.specs.Actions.{IsAllowed}
use Rattle.vac_model.specs.declared.action.Action.{Action}
use Rattle.vacation_core.proofs.sessions.are_allowed.Given as goal

abbrev pub invariant-loop-action : goal.invariant-loop-action
invariant-loop-action l = (k : ℕ) → k < l.action-index → (d : Action) → IsAllowed (get_or l.actions k d)
