use Rattle.std.proofs.Common.{◌≡◌, ◌++◌, ◌-◌}
use Rattle.std.specs.List.{range_with_len}
use Rattle.actor_parts.specs.Footprints.{with_known}
use Rattle.actor_parts.proofs.footprints.with_known_below.Given as goal

-- those so far, and those that are left
abbrev pub invariant-loop-location : goal.invariant-loop-location
invariant-loop-location g l =
    l.left.items ++ with_known l.initial.copied l.initial.first (range_with_len l.location (l.initial.count - l.location))
    ≡ with_known l.initial.copied l.initial.first (range_with_len 0 l.initial.count)
