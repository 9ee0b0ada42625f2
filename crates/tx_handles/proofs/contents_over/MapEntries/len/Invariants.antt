use Rattle.std.proofs.Common.{◌≡◌, ◌+◌, ◌-◌, ◌^◌, length, min}
use Rattle.std.specs.Prelude.{slice_get}
use Rattle.tx_handles.specs.Read.{map_entries}
use Rattle.tx_handles.proofs.SumLemmas.{below}
use Rattle.tx_handles.proofs.contents_over.MapEntries.len.Given as goal

-- the keys of the collections so far
abbrev pub invariant-gates : goal.invariant-gates
invariant-gates g l =
    l.total ≡ min (below (λ i. length (map_entries (slice_get l.fn.self.held.now (l.fn.self.gates.first + i)))) l.i) (2 ^ 64 - 1)
