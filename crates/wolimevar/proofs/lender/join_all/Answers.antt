use Rattle.std.proofs.Common.{subst, sym}
use Rattle.std.proofs.lemmas.List.Elements.{All-get_or}
use Rattle.std.specs.Prelude.{IfSome}
use Rattle.shared_table.specs.declared.table.TxTable.{TxTable}
use Rattle.wolimevar.specs.declared.homes.Home.{Home}
use Rattle.tx_client.specs.Backs.{IsBack}
use Rattle.wolimevar.specs.Homes.{IsHomeOf}
use Rattle.wolimevar.proofs.LenderLemmas.{joined_back, none_back, then_back}
use Rattle.wolimevar.proofs.lender.join_all.Goals as goal

pub homes-init : goal.homes-init
homes-init g c = record { ready = c.requires.ready; back = none_back c.args.seat.now.seat }

pub homes-preserved : goal.homes-preserved
homes-preserved g c =
    let t = c.args.table.now in
    let at_home = subst (λ (h : Home g.row.V.Denot). IsHomeOf t h) (sym c.home-item.is)
    (All-get_or (λ (h : Home g.row.V.Denot). IsHomeOf t h) c.args.homes.now c.homes.home-index c.home-item.result c.homes-test.true
    c.requires.own) in
    let back = subst (λ (u : TxTable g.row.V.Denot). IfSome c.take.result (IsBack u)) at_home c.take.ensures in
    record {
      ready = c.join_back.ensures.ready;
      back = then_back _ _ _ c.homes.invariant.back
          (joined_back t _ _ c.take.result back c.join_back.ensures.shares c.join_back.ensures.receipts c.join_back.ensures.last
          c.join_back.ensures.asks);
    }
