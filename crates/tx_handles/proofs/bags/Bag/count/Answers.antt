use Rattle.std.proofs.Common.{◌≡◌}
use Rattle.seq_model.specs.declared.call.Reply.TheVariants as replies
use Rattle.seq_model.specs.declared.call.Op.TheVariants as op
use Rattle.tx_handles.specs.HandleCalls.{BagAnswers}
use Rattle.tx_handles.proofs.GateLemmas.{bag_counts, on_ok}
use Rattle.tx_handles.proofs.bags.Bag.count.Goals as goal

pub returns : goal.returns
returns g c =
    let shown = g.T.MakesCalls.shown in
    on_ok (λ found. c.in_ok-reply.reply ≡ replies.Number found)
    (λ found. BagAnswers (shown c.args.tx.now) c.args.self.now c.args.element (op.Count c.args.element) (replies.Number found)
    (shown c.call_at.new.tx))
    c.number_in.result (λ found is. bag_counts c.args.element (shown c.args.tx.now) (shown c.call_at.new.tx) c.args.self.now
    c.in_ok-reply.reply (replies.Number found) is
    c.in_ok-reply.ensures) c.number_in.ensures
