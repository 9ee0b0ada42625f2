use Rattle.std.proofs.Common.{◌≡◌, ◌+◌, ◌≤◌, length}
use Rattle.session_text.specs.Lanes.{lane_in}
use Rattle.session_text.proofs.layout.Layout.lane_of.Given as goal

abbrev pub decreases-loop-other : goal.decreases-loop-other
decreases-loop-other l = length l.left

abbrev pub invariant-loop-other : goal.invariant-loop-other
invariant-loop-other l = record {
  before : l.lane + lane_in l.left l.fn.actor ≡ lane_in l.self.actors.items l.fn.actor;
  bound : l.lane + length l.left ≡ length l.self.actors.items;
}
