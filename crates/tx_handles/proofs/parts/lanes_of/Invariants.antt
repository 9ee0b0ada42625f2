use Rattle.std.proofs.Common.{◌≡◌, [], ◌∷◌, replicate}
use Rattle.seq_model.specs.declared.held.Held.TheVariants as held
use Rattle.tx_handles.proofs.parts.lanes_of.Given as goal

-- the first queue, and so many empty ones
abbrev pub invariant-lanes : goal.invariant-lanes
invariant-lanes g l = l.all.items ≡ held.Queue 0 l.fn.items ∷ replicate l.counter (held.Queue 0 [])
