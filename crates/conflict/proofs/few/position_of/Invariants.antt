use Rattle.std.proofs.Common.{◌≡◌, ◌≤◌, ◌+◌, ◌-◌, length, drop}
use Rattle.conflict.proofs.FewLemmas.{place}
use Rattle.conflict.proofs.few.position_of.Given as goal

-- the key stands at no place before this one
abbrev pub invariant-loop-place : goal.invariant-loop-place
invariant-loop-place g l =
    (l.place + place l.key (drop l.place l.few) ≡ place l.key l.few) × (l.place ≤ length l.few)

abbrev pub decreases-loop-place : goal.decreases-loop-place
decreases-loop-place g l = length l.few - l.place
