use Rattle.std.proofs.Common.{◌≡◌, take}
use Rattle.actor_parts.specs.Openings.{blocks_of}
use Rattle.actor_parts.proofs.layout.lay.Given as goal

abbrev pub invariant-loop-i : goal.invariant-loop-i
invariant-loop-i g l = (l.blocks.words ≡ l.fn.words) × (l.blocks.blocks ≡ blocks_of (take l.i l.stripes) (take l.i l.held))
