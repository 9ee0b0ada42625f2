use Rattle.std.proofs.Common.{◌≡◌, take}
use Rattle.vacation_core.proofs.sessions.sessions_of.Given as goal

abbrev pub invariant-loop-action : goal.invariant-loop-action
invariant-loop-action l = l.sessions.items ≡ take l.action-index l.actions
