use Rattle.std.proofs.Common.{Option, ap, sym, ◌∙◌, ◌++◌}
use Rattle.shared_table.specs.declared.view.SeatKnowledge.{SeatKnowledge}
use Rattle.shared_table.specs.Seated.{view}
use Rattle.tx_engine.specs.declared.seats.TxSeat.{TxSeat}
use Rattle.tx_client.specs.Frames.{receipts_at}
use Rattle.wolimevar.proofs.lender.join_back.Goals as goal

pub returns-in-Some-clause-receipts : goal.returns-in-Some-clause-receipts
returns-in-Some-clause-receipts g c =
    ap (λ (v : SeatKnowledge g.row.V.Denot). v.receipts) c.join.ensures.both
    ∙ ap (λ (o : Option (TxSeat g.row.V.Denot)). (view c.args.seat.now.seat).receipts ++ receipts_at o) (sym c.in-Some.is)
