use Rattle.std.proofs.Common.{◌≡◌, drop}
use Rattle.step_core.specs.Shown.{actor_of}
use Rattle.actor_parts.specs.Writes.{MayWrite, written_as}
use Rattle.actor_parts.proofs.writes.write_all.Given as goal

-- those that are left make the word actor whole, and there is room for them
abbrev pub invariant-loop-write : goal.invariant-loop-write
invariant-loop-write l =
    (written_as (actor_of l.words) (drop l.write-index l.writes) ≡ written_as (actor_of l.initial.words) l.writes)
    × MayWrite l.words (drop l.write-index l.writes) × (l.words.place ≡ l.initial.words.place)
