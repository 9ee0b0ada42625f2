use Rattle.std.proofs.Common.{◌≡◌}
use Rattle.seq_model.specs.Calls.{value_reply}
use Rattle.seq_model.specs.declared.call.Op.TheVariants as op
use Rattle.tx_handles.specs.HandleCalls.{MapAnswers}
use Rattle.tx_handles.proofs.GateLemmas.{map_puts, on_ok}
use Rattle.tx_handles.proofs.maps.Map.put.Goals as goal

pub returns : goal.returns
returns g c =
    let shown = g.T.MakesCalls.shown in
    on_ok (λ found. c.in_ok-reply.reply ≡ value_reply found)
    (λ found. MapAnswers (shown c.args.tx.now) c.args.self.now c.args.key (op.Put c.args.key c.args.value) (value_reply found)
    (shown c.call_at.new.tx))
    c.value_in.result (λ found is. map_puts c.args.key (shown c.args.tx.now) (shown c.call_at.new.tx) c.args.self.now c.in_ok-reply.reply
    (value_reply found) is c.args.value
    c.in_ok-reply.ensures) c.value_in.ensures
