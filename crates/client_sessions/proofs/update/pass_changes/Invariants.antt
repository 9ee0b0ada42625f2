use Rattle.std.proofs.Common.{◌-◌, length}
use Rattle.client_sessions.specs.Noted.{AreChanged}
use Rattle.client_sessions.proofs.update.pass_changes.Given as goal

abbrev pub invariant-changes : goal.invariant-changes
invariant-changes l = AreChanged l.changes l.replies l.heard l.passed

abbrev pub decreases-changes : goal.decreases-changes
decreases-changes l = length l.changes - l.passed
