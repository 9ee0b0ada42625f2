use Rattle.std.proofs.Common.{◌≡◌, Ok, Err, true, false, subst}
use Rattle.std.specs.Prelude.{IfOk}
use Rattle.shared_table.specs.Seated.{opening_of}
use Rattle.tx_turns.specs.Driven.{is_declared}
use Rattle.tx_turns.specs.RequestHistory.{requests_of}
use Rattle.tx_engine.specs.declared.seats.TxSeat.{TxSeat}
use Rattle.tx_engine.specs.Requests.{HasAskedToBegin, KeepsReceipts}
use Rattle.tx_engine.proofs.RequestLemmas.{then_keeps}
use Rattle.tx_client.specs.RequestKinds.{HasAsked}
use Rattle.tx_client.specs.Ends.{EndsAs}
use Rattle.tx_client.specs.Frames.{calls_made}
use Rattle.tx_client.proofs.RequestKindLemmas.{asks_to_begin, then_asks}
use Rattle.tx_client.proofs.EndLemmas.{attempted, ok_then, refused}
use Rattle.tx_client.proofs.attempts.attempt.Goals as goal

pub returns-in-Err-clause-ends : goal.returns-in-Err-clause-ends
returns-in-Err-clause-ends g c =
    refused _ _ c.args.seat.seat c.begin.new.seat.seat c.in-Err.cause
    (subst (λ (s : TxSeat g.row.V.Denot). KeepsReceipts s.seat c.begin.new.seat.seat) c.get_mut.ensures.value c.begin.ensures.keeps)

pub returns-in-Err-clause-asks : goal.returns-in-Err-clause-asks
returns-in-Err-clause-asks g c =
    let begins =
    subst (λ (s : TxSeat g.row.V.Denot). HasAskedToBegin c.args.declared (opening_of c.args.table.now) s.seat c.begin.new.seat.seat)
    c.get_mut.ensures.value c.begin.ensures.asks in
    asks_to_begin c.args.declared (opening_of c.args.table.now) c.args.seat.seat c.begin.new.seat.seat c.requires.ready.between begins

pub returns-in-Ok-clause-ends : goal.returns-in-Ok-clause-ends
returns-in-Ok-clause-ends g c =
    let o = opening_of c.args.table.now in
    let gave = c.run-seat.result.1.gave in
    let keeps = subst (λ (s : TxSeat g.row.V.Denot). KeepsReceipts s.seat c.begin.new.seat.seat) c.get_mut.ensures.value
    c.begin.ensures.keeps in
    let ends =
    subst (λ (s : TxSeat g.row.V.Denot). EndsAs (λ out calls. (Ok out ≡ gave) × (calls ≡ calls_made o s.seat))
    (λ error calls. (Err error ≡ gave) × (calls ≡ calls_made o s.seat)) s.seat c.finish-ended.new.seat.seat c.finish-ended.result)
    c.get_mut-in-Ok.ensures.value c.finish-ended.ensures.ends in
    attempted (g.B.Body.makes c.args.body.now) (g.B.Body.aborts c.args.body.now) o c.args.seat.seat
    c.run-seat.result.0.seat c.finish-ended.new.seat.seat gave c.finish-ended.result
    (then_keeps c.args.seat.seat c.begin.new.seat.seat c.run-seat.result.0.seat keeps c.run-seat.ensures.calls.keeps)
    c.run-seat.ensures.made c.run-seat.ensures.aborts ends

pub returns-in-Ok-clause-asks : goal.returns-in-Ok-clause-asks
returns-in-Ok-clause-asks g c =
    let begins =
    subst (λ (s : TxSeat g.row.V.Denot). HasAskedToBegin c.args.declared (opening_of c.args.table.now) s.seat c.begin.new.seat.seat)
    c.get_mut.ensures.value c.begin.ensures.asks in
    let ends =
    subst (λ (s : TxSeat g.row.V.Denot). HasAsked c.args.declared (requests_of s.seat) (requests_of c.finish-ended.new.seat.seat))
    c.get_mut-in-Ok.ensures.value c.finish-ended.ensures.asks in
    then_asks c.args.declared _ _ _
    (asks_to_begin c.args.declared (opening_of c.args.table.now) c.args.seat.seat c.begin.new.seat.seat c.requires.ready.between begins)
    (then_asks c.args.declared _ _ _ (c.run-seat.ensures.calls.asks c.args.declared) ends)

pub returns-in-Ok-clause-reads : goal.returns-in-Ok-clause-reads
returns-in-Ok-clause-reads g c =
    let o = opening_of c.args.table.now in
    let ends =
    subst (λ (s : TxSeat g.row.V.Denot). IfOk c.finish-ended.result (λ done. is_declared o s.seat ≡ true → done.1.writes ≡ false))
    c.get_mut-in-Ok.ensures.value c.finish-ended.ensures.reads in
    ok_then c.finish-ended.result (λ _ wrote is. wrote (c.run-seat.ensures.calls.reader (c.in-Ok.ensures.reads is))) ends
