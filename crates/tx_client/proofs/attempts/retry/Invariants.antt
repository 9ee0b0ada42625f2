use Rattle.std.proofs.Common.{◌≡◌, ◌≤◌}
use Rattle.std.specs.Prelude.{IfOk, false, max, true}
use Rattle.tx_turns.specs.RequestHistory.{requests_of}
use Rattle.tx_engine.specs.Ready.{IsReady}
use Rattle.tx_client.specs.RequestKinds.{HasAsked}
use Rattle.tx_client.specs.Ends.{EndsAs}
use Rattle.tx_client.proofs.TallyLemmas.{AreSoFar}
use Rattle.tx_client.proofs.attempts.retry.Given as goal

-- the last attempt has ended so, no earlier one has gained a receipt, and all are counted
abbrev pub invariant-tries : goal.invariant-tries
invariant-tries g l = record {
  ready : IsReady l.table l.seat;
  ends : EndsAs (g.B.Body.makes l.body) (g.B.Body.aborts l.body) l.fn.seat.seat l.seat.seat l.ended;
  asks : HasAsked l.declared (requests_of l.fn.seat.seat) (requests_of l.seat.seat);
  counted : AreSoFar l.i l.fn.tally l.counted l.ended;
  few : l.i ≤ max l.tries 1;
  reads : IfOk l.ended (λ done. l.declared ≡ true → done.1.writes ≡ false);
}
