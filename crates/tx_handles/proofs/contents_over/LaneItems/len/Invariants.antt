use Rattle.std.proofs.Common.{◌≡◌, ◌+◌, ◌-◌, ◌^◌, length, min}
use Rattle.std.specs.Prelude.{slice_get}
use Rattle.tx_handles.proofs.ReadLemmas.{items_of}
use Rattle.tx_handles.proofs.SumLemmas.{below}
use Rattle.tx_handles.proofs.contents_over.LaneItems.len.Given as goal

-- the items of the lanes so far
abbrev pub invariant-gates : goal.invariant-gates
invariant-gates g l =
    l.total ≡ min (below (λ i. length (items_of (slice_get l.fn.self.held.now (l.fn.self.gates.first + i)))) l.i) (2 ^ 64 - 1)
