use Rattle.std.proofs.Common.{◌≡◌, ◌++◌, drop}
use Rattle.actor_parts.specs.Footprints.{with_known}
use Rattle.actor_parts.proofs.footprints.with_known.Given as goal

-- those so far, and those that are left
abbrev pub invariant-loop-location : goal.invariant-loop-location
invariant-loop-location g l =
    l.left.items ++ with_known l.initial.copied l.initial.first (drop l.location-index l.location-items)
    ≡ with_known l.initial.copied l.initial.first l.location-items
