use Rattle.std.proofs.Common.{◌-◌}
use Rattle.client_sessions.specs.Weighed.{AreWeighed}
use Rattle.client_sessions.proofs.weighed.Weighed.weigh_all.Given as goal

abbrev pub invariant-weighs : goal.invariant-weighs
invariant-weighs l = AreWeighed l.asks l.replies l.self

abbrev pub decreases-weighs : goal.decreases-weighs
decreases-weighs l = l.end - l.self.count
