use Rattle.std.proofs.Common.{◌≡◌, replicate}
use Rattle.std.specs.FinMap.{empty}
use Rattle.tx_handles.proofs.parts.no_parts.Given as goal

-- so many maps, each empty
abbrev pub invariant-parts : goal.invariant-parts
invariant-parts g l = l.parts.items ≡ replicate l.counter empty
