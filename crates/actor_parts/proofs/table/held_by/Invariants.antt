use Rattle.std.proofs.Common.{◌≡◌, map, take}
use Rattle.replay_log.specs.Base.{held_of, shown_of}
use Rattle.actor_parts.proofs.table.held_by.Given as goal

abbrev pub invariant-loop-base : goal.invariant-loop-base
invariant-loop-base g l = l.held.items ≡ map (λ base. held_of (shown_of base)) (take l.base-index l.bases)
