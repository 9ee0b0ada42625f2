use Rattle.std.proofs.Common.{rules, ◌≡◌, ◌++◌, ◌∙◌, Some, ap, map, sym}
use Rattle.shared_table.specs.Seated.{view}
use Rattle.tx_engine.specs.declared.seats.TxSeat.{TxSeat}
use Rattle.tx_client.specs.Frames.{receipts_at}
use Rattle.wolimevar.specs.Sessions.{joined}
use Rattle.wolimevar.proofs.sessions.join_others.Goals as goal

pub returns-clause-receipts : goal.returns-clause-receipts
returns-clause-receipts g c =
    let is : c.args.own.seat ≡ Some c.in-Some-Some.seat = search rules in
    let rest = joined (map (λ p. receipts_at p.seat) c.args.others.items) in
    c.join_all.ensures.receipts
    ∙ ap (λ (x : TxSeat g.row.V.Denot). (view x.seat).receipts ++ rest) c.get_mut.ensures.value
    ∙ ap (λ x. receipts_at x ++ rest) (sym is)
