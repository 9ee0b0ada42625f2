use Rattle.std.proofs.Common.{◌≡◌, ◌≤◌, drop, length}
use Rattle.tx_sets.specs.Entries.{IsRising}
use Rattle.actor_parts.specs.Blocks.{homes_in}
use Rattle.actor_parts.proofs.homes.written_homes.Given as goal

abbrev pub invariant-loop-i : goal.invariant-loop-i
invariant-loop-i l = (l.i ≤ length l.entries) × (l.homes.items ≡ homes_in l.blocks (drop l.i l.entries)) × IsRising l.entries

abbrev pub decreases-loop-i : goal.decreases-loop-i
decreases-loop-i l = l.i
