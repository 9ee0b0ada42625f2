use Rattle.std.proofs.Common.{◌≡◌, length}
use Rattle.actor_parts.specs.Judged.{judged, left_after}
use Rattle.actor_parts.proofs.judged.judge.Given as goal

abbrev pub invariant-loop-location : goal.invariant-loop-location
invariant-loop-location l =
    (judged l.reads.entries l.left.items ≡ judged l.initial.reads.entries l.initial.left.items)
    × (left_after l.reads.entries l.left.items ≡ left_after l.initial.reads.entries l.initial.left.items)
    × (l.reads.entries ≡ l.initial.reads.entries)

abbrev pub decreases-loop-location : goal.decreases-loop-location
decreases-loop-location l = length l.left.items
