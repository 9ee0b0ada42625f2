use Rattle.tx_handles.proofs.SumLemmas.{IsSummedTo}
use Rattle.tx_handles.proofs.calls.total_len.Given as goal

-- the collections so far were asked for their numbers
abbrev pub invariant-gates : goal.invariant-gates
invariant-gates g l = IsSummedTo (g.T.MakesCalls.shown l.fn.tx) (g.T.MakesCalls.shown l.tx) l.store l.gates.first l.i l.total
