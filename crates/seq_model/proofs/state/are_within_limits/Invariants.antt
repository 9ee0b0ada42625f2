use Rattle.std.proofs.Common.{ℕ, ◌<◌, get_or}
use Rattle.seq_model.specs.declared.held.Held.{Held}
use Rattle.seq_model.specs.Calls.{IsWithinLimits}
use Rattle.seq_model.proofs.state.are_within_limits.Given as goal

abbrev pub invariant-loop-collection : goal.invariant-loop-collection
invariant-loop-collection g l = (k : ℕ) → k < l.collection-index → (d : Held g.row.V.Denot) → IsWithinLimits (get_or l.held k d)
