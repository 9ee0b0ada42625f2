use Rattle.std.proofs.Common.{◌≡◌}
use Rattle.tx_handles.specs.MadeCall.{room_reply}
use Rattle.seq_model.specs.declared.call.Op.TheVariants as op
use Rattle.tx_handles.specs.HandleCalls.{BagAnswers}
use Rattle.tx_handles.proofs.GateLemmas.{bag_adds, on_ok}
use Rattle.tx_handles.proofs.bags.Bag.add.Goals as goal

pub returns : goal.returns
returns g c =
    let shown = g.T.MakesCalls.shown in
    on_ok (λ found. c.in_ok-reply.reply ≡ room_reply found)
    (λ found. BagAnswers (shown c.args.tx.now) c.args.self.now c.args.element (op.Add c.args.element) (room_reply found)
    (shown c.call_at.new.tx))
    c.room_in.result (λ found is. bag_adds c.args.element (shown c.args.tx.now) (shown c.call_at.new.tx) c.args.self.now
    c.in_ok-reply.reply (room_reply found) is
    c.in_ok-reply.ensures) c.room_in.ensures
