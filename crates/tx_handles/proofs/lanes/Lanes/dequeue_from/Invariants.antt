use Rattle.std.proofs.Common.{◌≤◌, None}
use Rattle.tx_handles.specs.Lanes.{HasTakenFrom}
use Rattle.tx_handles.proofs.lanes.Lanes.dequeue_from.Given as goal

-- the lanes so far were looked at in vain
abbrev pub invariant-lanes : goal.invariant-lanes
invariant-lanes g l = record {
  taken : HasTakenFrom (g.T.MakesCalls.shown l.fn.tx) l.self l.fn.first l.i None (g.T.MakesCalls.shown l.tx);
  from : l.fn.first ≤ l.i;
}
