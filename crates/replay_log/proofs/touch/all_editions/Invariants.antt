use Rattle.std.proofs.Common.{◌≡◌}
use Rattle.conflict.specs.Footprints.{all_below}
use Rattle.replay_log.specs.Touches.{editions_at}
use Rattle.replay_log.proofs.touch.all_editions.Given as goal

-- the editions of the locations before this one
abbrev pub invariant-loop-location : goal.invariant-loop-location
invariant-loop-location g l = l.editions ≡ editions_at (all_below l.location) l.fn.base.editions
