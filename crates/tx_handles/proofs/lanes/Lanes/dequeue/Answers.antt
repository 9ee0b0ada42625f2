use Rattle.std.proofs.Common.{rules, ◌≡◌, ◌+◌, ◌<◌, None, arith, subst}
use Rattle.tx_handles.specs.Lanes.{HasDoneWithLanes, HasTakenFrom, IsTaken}
use Rattle.tx_handles.proofs.GateLemmas.{on_ok}
use Rattle.tx_handles.proofs.LaneLemmas.{taken_then}
use Rattle.tx_handles.proofs.lanes.Lanes.dequeue.Goals as goal

pub returns-in-None : goal.returns-in-None
returns-in-None g c =
    let shown = g.T.MakesCalls.shown in
    let none : c.in_ok-item.field-0 ≡ None = search rules in
    let own : c.own-own.result < c.from-last.result + 1 = omega arith in
    let last : c.from-last.result + 1 ≡ c.args.self.now.gates.others + 1 = omega arith in
    let first = subst (λ found. HasTakenFrom (shown c.args.tx.now) c.args.self.now c.own-own.result (c.from-last.result + 1) found
    (shown c.dequeue_from.new.tx)) none
    c.in_ok-item.ensures in
    on_ok (λ found. HasTakenFrom (shown c.dequeue_from.new.tx) c.args.self.now 0 c.own-own.result found
    (shown c.dequeue_from-in-None.new.tx))
    (λ found. HasDoneWithLanes (shown c.args.tx.now) c.args.self.now (λ lanes t. IsTaken c.args.self.now.gates lanes found t)
    (shown c.dequeue_from-in-None.new.tx))
    c.dequeue_from-in-None.result
    (λ found second. taken_then (shown c.args.tx.now) (shown c.dequeue_from.new.tx) (shown c.dequeue_from-in-None.new.tx) c.args.self.now
    c.own-own.result
    (c.from-last.result + 1) found own last first second) c.dequeue_from-in-None.ensures
