use Rattle.std.proofs.Common.{◌≡◌, ◌-◌, length}
use Rattle.seq_model.specs.declared.limits.TheConstants.{CALL_LIMIT}
use Rattle.seq_model.specs.Places.{IsPlaceIn}
use Rattle.shared_table.specs.Seated.{opening_of}
use Rattle.tx_turns.specs.Begins.{begins_of}
use Rattle.tx_engine.specs.Ready.{HasBegunSince, IsReady}
use Rattle.tx_engine.specs.Requests.{HasSameAborted, KeepsReceipts}
use Rattle.tx_engine.specs.Attempts.{IsSoFar}
use Rattle.tx_engine.proofs.attempts.ask_all.Given as goal

abbrev pub invariant-calls : goal.invariant-calls
invariant-calls g l = record {
  ready : IsReady l.table l.seat;
  since : HasBegunSince l.table l.seat;
  keeps : KeepsReceipts l.fn.seat.seat l.seat.seat;
  same : HasSameAborted (opening_of l.table) l.fn.seat.seat l.seat.seat;
  begins : begins_of l.seat.seat ≡ begins_of l.fn.seat.seat;
  so_far : IsSoFar (g.J.Job.asks l.job) (opening_of l.table) l.seat.seat l.replies.items;
  place : IsPlaceIn (g.J.Job.stands l.job) l.replies.items l.place;
}

abbrev pub decreases-calls : goal.decreases-calls
decreases-calls g l = CALL_LIMIT - length l.replies.items
