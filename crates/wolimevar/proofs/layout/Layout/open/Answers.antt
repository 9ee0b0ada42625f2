use Rattle.std.proofs.Common.{ap, refl, sym, subst, ◌∙◌}
use Rattle.shared_table.specs.Seated.{view}
use Rattle.tx_engine.specs.declared.seats.TxSeat.{TxSeat}
use Rattle.tx_engine.specs.Ready.{IsReady}
use Rattle.wolimevar.proofs.layout.Layout.open.Goals as goal

pub invariant_of-result : goal.invariant_of-result
invariant_of-result g c = record {
  own = c.in_ok-seat.seat;
  is = refl;
  ready = subst (IsReady c.in_ok-table.table) (sym c.in_ok-seat.ensures) c.in_ok-table.ensures.ready;
  whole = ap (λ (s : TxSeat g.row.V.Denot). (view s.seat).shares) c.in_ok-seat.ensures ∙ (λ i. (c.in_ok-table.ensures.first.0 i).shares);
}
