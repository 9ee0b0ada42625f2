use Rattle.std.proofs.Common.{◌≡◌, ◌++◌, drop}
use Rattle.actor_parts.specs.Writes.{with_next}
use Rattle.actor_parts.proofs.writes.with_next.Given as goal

-- those so far, and those that are left
abbrev pub invariant-loop-location : goal.invariant-loop-location
invariant-loop-location g l =
    l.writes.items ++ with_next l.initial.copied l.initial.first (drop l.location-index l.location-items)
    ≡ with_next l.initial.copied l.initial.first l.location-items
