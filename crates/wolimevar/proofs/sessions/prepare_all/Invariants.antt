use Rattle.std.proofs.Common.{◌≡◌, Some, length, map}
use Rattle.std.specs.Prelude.{All}
use Rattle.std.specs.Vec.{vec_capacity}
use Rattle.tx_engine.specs.Ready.{IsReady}
use Rattle.wolimevar.specs.Sessions.{IsWaiting}
use Rattle.wolimevar.specs.Splits.{HasLeft}
use Rattle.wolimevar.proofs.sessions.prepare_all.Given as goal

-- the sessions so far wait, each with a share
abbrev pub invariant-sessions : goal.invariant-sessions
invariant-sessions g l = record {
  ready : IsReady l.table l.seat;
  left : HasLeft (length l.tasks.items) l.fn.seat.seat l.seat.seat;
  wait : All (IsWaiting l.table) l.tasks.items;
  prepared : map (λ p. p.session) l.tasks.items ≡ map Some l.yielded;
  count : length l.tasks.items ≡ length l.yielded;
  room : vec_capacity l.tasks ≡ vec_capacity l.fn.tasks;
}
