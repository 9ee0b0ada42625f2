use Rattle.std.proofs.Common.{subst}
use Rattle.seq_model.specs.declared.call.Call.{Call}
use Rattle.tx_engine.specs.declared.seats.TxSeat.{TxSeat}
use Rattle.tx_engine.specs.Ready.{HasCalled}
use Rattle.tx_client.proofs.FrameLemmas.{called_on}
use Rattle.tx_client.proofs.transaction.Transaction.request.Goals as goal

pub invariant_of-self-in-Err : goal.invariant_of-self-in-Err
invariant_of-self-in-Err g c =
    let call : Call g.row.V.Denot = record { target = c.args.target; op = c.args.op } in
    called_on g.S.Scope.frame c.self.inside.table.now c.self.inside.seat c.call_at.new.seat call c.call_at.result c.self.invariant
    (subst (λ (s : TxSeat g.row.V.Denot). HasCalled c.self.inside.table.now s c.call_at.new.seat call c.call_at.result)
    c.get_mut.ensures.value
    c.call_at.ensures.called)

pub invariant_of-self : goal.invariant_of-self
invariant_of-self g c =
    let call : Call g.row.V.Denot = record { target = c.args.target; op = c.args.op } in
    called_on g.S.Scope.frame c.self.inside.table.now c.self.inside.seat c.call_at.new.seat call c.call_at.result c.self.invariant
    (subst (λ (s : TxSeat g.row.V.Denot). HasCalled c.self.inside.table.now s c.call_at.new.seat call c.call_at.result)
    c.get_mut.ensures.value
    c.call_at.ensures.called)
