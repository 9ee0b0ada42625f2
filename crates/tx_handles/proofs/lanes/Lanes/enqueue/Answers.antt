use Rattle.std.proofs.Common.{◌≡◌}
use Rattle.tx_handles.specs.Lanes.{HasDoneWithLanes, IsAdded}
use Rattle.tx_handles.specs.MadeCall.{room_reply}
use Rattle.tx_handles.proofs.GateLemmas.{on_ok}
use Rattle.tx_handles.proofs.LaneLemmas.{has_added}
use Rattle.tx_handles.proofs.lanes.Lanes.enqueue.Goals as goal

pub returns : goal.returns
returns g c =
    let shown = g.T.MakesCalls.shown in
    on_ok (λ added. c.in_ok-reply.reply ≡ room_reply added)
    (λ added. HasDoneWithLanes (shown c.args.tx.now) c.args.self.now (λ lanes t. IsAdded c.args.self.now.gates lanes c.args.item added t)
    (shown c.call.new.self))
    c.room_in.result
    (λ added is. has_added (shown c.args.tx.now) (shown c.call.new.self) c.args.self.now c.own.result c.in_ok-number.number c.args.item
    added c.in_ok-reply.reply
    c.own.ensures c.in_ok-number.ensures c.in_ok-reply.ensures.made is) c.room_in.ensures
