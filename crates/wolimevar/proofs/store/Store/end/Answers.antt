use Rattle.std.proofs.Common.{subst, sym}
use Rattle.actor_parts.specs.declared.blocks.TheConstants.{COLLECTION_LIMIT}
use Rattle.shared_table.specs.Seated.{contents_in, view}
use Rattle.tx_engine.specs.declared.seats.TxSeat.{TxSeat}
use Rattle.tx_engine.specs.Closing as closing
use Rattle.wolimevar.proofs.CloseLemmas.{close_left}
use Rattle.wolimevar.proofs.store.Store.end.Goals as goal

pub returns-clause-left : goal.returns-clause-left
returns-clause-left g c =
    close_left c.self.inside.number c.self.inside.table c.self.inside.seat c.in-Some.seat c.self.inside.tally c.args.self
    c.in-Ok.closed c.self.view_is c.in-Some.is
    (subst (λ (s : TxSeat g.row.V.Denot). closing.IsLeftBy (contents_in c.self.inside.table) (view s.seat).receipts c.in-Ok.closed)
    c.into_inner.ensures c.in-Ok.ensures.left)
