use Rattle.std.proofs.Common.{rules, ◌≡◌, Some, subst, sym}
use Rattle.shared_table.specs.Seated.{view}
use Rattle.shared_table.specs.declared.table.TxTable.{TxTable}
use Rattle.shared_table.specs.declared.view.TheConstants.{SHARES}
use Rattle.wolimevar.specs.StoreSeats.{IsAtStore}
use Rattle.wolimevar.proofs.LenderLemmas.{lender_ends}
use Rattle.wolimevar.proofs.lender.Lender.into_store.Goals as goal

pub invariant_of-result : goal.invariant_of-result
invariant_of-result g c =
    let seat = c.self.inside.seat in
    let whole : (view seat.seat).shares ≡ SHARES = search rules in
    subst (λ (t : TxTable g.row.V.Denot). IsAtStore t (Some seat)) (sym c.in-Ok.ensures.ok) (lender_ends _ seat _ c.self.invariant whole)
