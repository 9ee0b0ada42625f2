use Rattle.std.proofs.Common.{◌∙◌, ap}
use Rattle.std.proofs.lemmas.Result.{err_from_is_err_and}
use Rattle.seq_model.specs.Programs.{after}
use Rattle.client_sessions.proofs.WalkLemmas.{stops_along, few_free, enough_free, books_on, served_later}
use Rattle.client_sessions.proofs.walk.Walk.serve_from.Goals as goal

pub returns-then-waiting-item-clause-comes : goal.returns-then-waiting-item-clause-comes
returns-then-waiting-item-clause-comes c = λ later end. ap (λ p. after p c.args.self.now)
    (few_free c.args.kind c.args.ticket c.args.waiting c.args.item later end c.if-waiting-item.true)

pub returns-in_err-end_wait-clause-comes : goal.returns-in_err-end_wait-clause-comes
returns-in_err-end_wait-clause-comes c =
    λ later end. let p = err_from_is_err_and c.from_residual.result c.from_residual.ensures.1 in
    rw (p.1, p.2) (stops_along _ _ _
    (ap (λ p. after p c.args.self.now)
    (enough_free c.args.kind c.args.ticket c.args.waiting c.args.item later end c.if-waiting-item.false))
    (c.in_err-end_wait.ensures (books_on c.args.kind c.args.ticket c.args.waiting c.args.item later end)))

pub returns-in_err-put_item-clause-comes : goal.returns-in_err-put_item-clause-comes
returns-in_err-put_item-clause-comes c =
    λ later end. let p = err_from_is_err_and c.from_residual-in_err-put_item.result c.from_residual-in_err-put_item.ensures.1 in
    rw (p.1, p.2) (stops_along _ _ _
    (ap (λ p. after p c.args.self.now)
    (enough_free c.args.kind c.args.ticket c.args.waiting c.args.item later end c.if-waiting-item.false)
    ∙ c.in_ok-end_wait.ensures (books_on c.args.kind c.args.ticket c.args.waiting c.args.item later end))
    (c.in_err-put_item.ensures (served_later c.args.kind c.args.ticket c.args.waiting c.args.item later end)))

pub returns-in_err-change_waiter-clause-comes : goal.returns-in_err-change_waiter-clause-comes
returns-in_err-change_waiter-clause-comes c =
    λ later end. let p = err_from_is_err_and c.from_residual-in_err-change_waiter.result c.from_residual-in_err-change_waiter.ensures.1 in
    rw (p.1, p.2) (stops_along _ _ _
    (ap (λ p. after p c.args.self.now)
    (enough_free c.args.kind c.args.ticket c.args.waiting c.args.item later end c.if-waiting-item.false)
    ∙ c.in_ok-end_wait.ensures (books_on c.args.kind c.args.ticket c.args.waiting c.args.item later end)
    ∙ c.in_ok-put_item.ensures (served_later c.args.kind c.args.ticket c.args.waiting c.args.item later end))
    (c.in_err-change_waiter.ensures (later 1)))

pub returns-clause-comes : goal.returns-clause-comes
returns-clause-comes c =
    λ later end. ap (λ p. after p c.args.self.now)
    (enough_free c.args.kind c.args.ticket c.args.waiting c.args.item later end c.if-waiting-item.false)
    ∙ c.in_ok-end_wait.ensures (books_on c.args.kind c.args.ticket c.args.waiting c.args.item later end)
    ∙ c.in_ok-put_item.ensures (served_later c.args.kind c.args.ticket c.args.waiting c.args.item later end)
    ∙ c.in_ok-change_waiter.ensures (later 1)
