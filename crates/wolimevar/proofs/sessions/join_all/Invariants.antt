use Rattle.std.proofs.Common.{◌≡◌, ◌+◌, ◌++◌, ◌≤◌, Some, length, map}
use Rattle.std.specs.Prelude.{All}
use Rattle.std.specs.Vec.{vec_capacity, vec_len}
use Rattle.std.specs.Vec.Iter.{into_iter_items}
use Rattle.shared_table.specs.Seated.{view}
use Rattle.tx_turns.specs.RequestHistory.{requests_of}
use Rattle.tx_engine.specs.Ready.{IsReady}
use Rattle.wolimevar.specs.Sessions.{IsFinished, joined}
use Rattle.tx_client.specs.Frames.{receipts_at}
use Rattle.wolimevar.proofs.sessions.join_all.Given as goal

-- what was joined, and what is left
abbrev pub invariant-tasks : goal.invariant-tasks
invariant-tasks g l = record {
  ready : IsReady l.table l.seat;
  finished : All (IsFinished l.table) (into_iter_items l.task-iterator);
  shares : (view l.seat.seat).shares + length (into_iter_items l.task-iterator)
      ≡ (view l.fn.seat.seat).shares + length l.fn.tasks.items;
  receipts : (view l.seat.seat).receipts ++ joined (map (λ p. receipts_at p.seat) (into_iter_items l.task-iterator))
      ≡ (view l.fn.seat.seat).receipts ++ joined (map (λ p. receipts_at p.seat) l.fn.tasks.items);
  asks : requests_of l.seat.seat ≡ requests_of l.fn.seat.seat;
  last : l.fn.seat.seat.last ≤ l.seat.seat.last;
  given : map Some l.outs.items ++ map (λ p. p.out) (into_iter_items l.task-iterator)
      ≡ map Some l.fn.outs.items ++ map (λ p. p.out) l.fn.tasks.items;
  room : vec_len l.outs + length (into_iter_items l.task-iterator) ≤ vec_capacity l.outs;
}
