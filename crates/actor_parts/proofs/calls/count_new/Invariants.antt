use Rattle.std.proofs.Common.{◌≡◌, ◌+◌, ◌≤◌, drop, length}
use Rattle.replay_log.specs.Contents.{shifted}
use Rattle.replay_log.specs.Worlds.{new_in}
use Rattle.actor_parts.proofs.calls.count_new.Given as goal

-- those before this one are counted
abbrev pub invariant-loop-location : goal.invariant-loop-location
invariant-loop-location g l =
    (l.new + length (new_in l.initial.set.entries (shifted l.initial.first (drop l.location-index l.location-items)))
    ≡ length (new_in l.initial.set.entries (shifted l.initial.first l.location-items)))
    × (l.new ≤ l.location-index)
