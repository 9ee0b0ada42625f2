use Rattle.std.proofs.Common.{◌∙◌, ap}
use Rattle.std.proofs.lemmas.Result.{err_from_is_err_and}
use Rattle.seq_model.specs.Programs.{after}
use Rattle.client_sessions.specs.Sessions as programs
use Rattle.client_sessions.proofs.WalkLemmas.{along, stops_along}
use Rattle.client_sessions.proofs.walk.Walk.serve_ticket.Goals as goal

pub returns-in_err-waiting-clause-comes : goal.returns-in_err-waiting-clause-comes
returns-in_err-waiting-clause-comes c = λ later end. let p = err_from_is_err_and c.from_residual.result c.from_residual.ensures.1 in
    rw (p.1, p.2) (c.in_err-waiting.ensures (λ o. programs.serve_ticket c.args.kind c.args.ticket o later end))

pub returns-in-Some-clause-comes : goal.returns-in-Some-clause-comes
returns-in-Some-clause-comes c =
    λ later end. along _ _ _ _ (c.in_ok-waiting.ensures (λ o. programs.serve_ticket c.args.kind c.args.ticket o later end)
    ∙ ap (λ o. after (programs.serve_ticket c.args.kind c.args.ticket o later end) c.get_ticket.new.self) c.in-Some.is)
    (c.serve_item.ensures.comes later end)

pub returns-in_err-dequeue-in-None-clause-comes : goal.returns-in_err-dequeue-in-None-clause-comes
returns-in_err-dequeue-in-None-clause-comes c =
    λ later end.
    let p = err_from_is_err_and
    c.from_residual-in_err-dequeue-in-None.result c.from_residual-in_err-dequeue-in-None.ensures.1 in
    rw (p.1, p.2) (stops_along _ _ _
    (c.in_ok-waiting.ensures (λ o. programs.serve_ticket c.args.kind c.args.ticket o later end)
    ∙ ap (λ o. after (programs.serve_ticket c.args.kind c.args.ticket o later end) c.get_ticket.new.self) c.in-None.is)
    (c.in_err-dequeue-in-None.ensures (later 0)))

pub returns-in_ok-dequeue-in-None-clause-comes : goal.returns-in_ok-dequeue-in-None-clause-comes
returns-in_ok-dequeue-in-None-clause-comes c =
    λ later end. c.in_ok-waiting.ensures (λ o. programs.serve_ticket c.args.kind c.args.ticket o later end)
    ∙ ap (λ o. after (programs.serve_ticket c.args.kind c.args.ticket o later end) c.get_ticket.new.self) c.in-None.is
    ∙ c.in_ok-dequeue-in-None.ensures (later 0)
