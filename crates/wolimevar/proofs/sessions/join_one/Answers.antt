use Rattle.std.proofs.Common.{rules, ◌≡◌, ◌++◌, ◌∙◌, Some, ap, arith, sym}
use Rattle.shared_table.specs.Seated.{view}
use Rattle.tx_engine.specs.declared.seats.TxSeat.{TxSeat}
use Rattle.tx_client.specs.Frames.{receipts_at}
use Rattle.wolimevar.proofs.sessions.join_one.Goals as goal

pub returns-clause-receipts : goal.returns-clause-receipts
returns-clause-receipts g c =
    let is : c.args.task.seat ≡ Some c.in-Some-Some.own = search rules in
    (λ i. (c.join.ensures.both i).receipts)
    ∙ ap (λ (x : TxSeat g.row.V.Denot). (view c.args.seat.now.seat).receipts ++ (view x.seat).receipts) c.into_inner.ensures
    ∙ ap (λ x. (view c.args.seat.now.seat).receipts ++ receipts_at x) (sym is)

pub returns-clause-last : goal.returns-clause-last
returns-clause-last g c =
    let last = c.join.ensures.last in
    omega (arith, last)
