use Rattle.std.proofs.Common.{rules, ◌≡◌, Some, refl, subst}
use Rattle.tx_engine.specs.Ready.{IsReady}
use Rattle.tx_client.proofs.FrameLemmas.{own_is}
use Rattle.wolimevar.proofs.sessions.serve_task.Goals as goal

pub returns : goal.returns
returns g c =
    let seat_is : c.args.task.now.seat ≡ Some c.in-Some-Some.seat = search rules in
    let session_is : c.args.task.now.session ≡ Some c.in-Some-Some.session = search rules in
    let due = c.requires.due in
    record {
      done = record {
        due = record {
          own = c.in-Some-Some.seat;
          seat = seat_is;
          ready = subst (IsReady c.args.table.now) (own_is c.args.task.now.seat due.own c.in-Some-Some.seat due.seat seat_is) due.ready;
          waiting = c.in-Some-Some.session;
          session = session_is;
        };
        ended = record {
          own = c.serve_at-seat.result.0;
          seat = refl;
          ready = c.serve_at-seat.ensures.ready;
          given = c.serve_at-seat.result.1;
          out = refl;
        };
        goes = c.serve_at-seat.ensures.goes;
        served = c.serve_at-seat.ensures.served;
      };
    }
