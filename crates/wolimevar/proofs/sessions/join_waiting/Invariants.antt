use Rattle.std.proofs.Common.{◌≡◌, ℕ, ◌+◌, length}
use Rattle.std.specs.Prelude.{All}
use Rattle.std.specs.Vec.Iter.{into_iter_items}
use Rattle.tx_engine.specs.Ready.{IsReady}
use Rattle.wolimevar.specs.Sessions.{IsWaiting}
use Rattle.wolimevar.specs.Splits.{HasLeft}
use Rattle.wolimevar.proofs.sessions.join_waiting.Given as goal

-- some were joined, and the others wait
abbrev pub invariant-tasks : goal.invariant-tasks
invariant-tasks g l = record {
  ready : IsReady l.table l.seat;
  wait : All (IsWaiting l.table) (into_iter_items l.task-iterator);
  count : ℕ;
  all : count + length (into_iter_items l.task-iterator) ≡ length l.fn.tasks.items;
  joined : HasLeft count l.seat.seat l.fn.seat.seat;
}
