use Rattle.std.proofs.Common.{◌≡◌}
use Rattle.tx_handles.specs.MadeCall.{yes_reply}
use Rattle.seq_model.specs.declared.call.Op.TheVariants as op
use Rattle.tx_handles.specs.HandleCalls.{BagAnswers}
use Rattle.tx_handles.proofs.GateLemmas.{bag_takes, on_ok}
use Rattle.tx_handles.proofs.bags.Bag.take.Goals as goal

pub returns : goal.returns
returns g c =
    let shown = g.T.MakesCalls.shown in
    on_ok (λ found. c.in_ok-reply.reply ≡ yes_reply found)
    (λ found. BagAnswers (shown c.args.tx.now) c.args.self.now c.args.element (op.Take c.args.element) (yes_reply found)
    (shown c.call_at.new.tx))
    c.yes_in.result (λ found is. bag_takes c.args.element (shown c.args.tx.now) (shown c.call_at.new.tx) c.args.self.now
    c.in_ok-reply.reply (yes_reply found) is
    c.in_ok-reply.ensures) c.yes_in.ensures
