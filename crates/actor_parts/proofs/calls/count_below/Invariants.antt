use Rattle.std.proofs.Common.{◌≡◌, ◌+◌, ◌-◌, ◌≤◌, length}
use Rattle.std.specs.List.{range_with_len}
use Rattle.replay_log.specs.Contents.{shifted}
use Rattle.replay_log.specs.Worlds.{new_in}
use Rattle.actor_parts.proofs.calls.count_below.Given as goal

-- those before this one are counted
abbrev pub invariant-loop-location : goal.invariant-loop-location
invariant-loop-location g l =
    (l.new + length (new_in l.initial.set.entries (shifted l.initial.first (range_with_len l.location (l.initial.count - l.location))))
    ≡ length (new_in l.initial.set.entries (shifted l.initial.first (range_with_len 0 l.initial.count))))
    × (l.new ≤ l.location)
