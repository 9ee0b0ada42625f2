use Rattle.std.proofs.Common.{rules, ◌≡◌, Some, subst}
use Rattle.std.specs.Arc.{arc_value}
use Rattle.shared_table.specs.declared.table.TxTable.{TxTable}
use Rattle.tx_engine.specs.Ready.{IsReady}
use Rattle.wolimevar.proofs.LenderLemmas.{served_client}
use Rattle.wolimevar.proofs.lent.LentClient.played.Goals as goal

pub invariant_of-result : goal.invariant_of-result
invariant_of-result g c =
    let seat = c.serve_one-seat.result.0 in
    let own = c.self.inside.own in
    let is : c.self.inside.runner.seat ≡ Some c.in-Some.seat = search rules in
    let table : c.deref.result.now ≡ arc_value own.table = search rules in
    let ready = subst (λ (t : TxTable g.row.V.Denot). IsReady t seat) table c.serve_one-seat.ensures.ready in
    served_client _ _ c.in-Some.seat seat c.self.invariant is ready c.serve_one-seat.ensures.shares c.serve_one-seat.ensures.own
