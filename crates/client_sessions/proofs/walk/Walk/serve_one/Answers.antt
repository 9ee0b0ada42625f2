use Rattle.std.proofs.Common.{◌∙◌, ap}
use Rattle.std.proofs.lemmas.Result.{err_from_is_err_and}
use Rattle.seq_model.specs.Programs.{after}
use Rattle.client_sessions.specs.Sessions as programs
use Rattle.client_sessions.proofs.WalkLemmas.{along}
use Rattle.client_sessions.proofs.walk.Walk.serve_one.Goals as goal

pub returns-in_err-ticket-clause-comes : goal.returns-in_err-ticket-clause-comes
returns-in_err-ticket-clause-comes c = λ later end. let p = err_from_is_err_and c.from_residual.result c.from_residual.ensures.1 in
    rw (p.1, p.2) (c.in_err-ticket.ensures (λ o. programs.serve_first c.args.kind o later end))

pub returns-in-Some-clause-comes : goal.returns-in-Some-clause-comes
returns-in-Some-clause-comes c =
    λ later end. along _ _ _ _ (c.in_ok-ticket.ensures (λ o. programs.serve_first c.args.kind o later end)
    ∙ ap (λ o. after (programs.serve_first c.args.kind o later end) c.peek.new.self) c.in-Some.is)
    (c.serve_ticket.ensures.comes later end)

pub returns-in-None-clause-comes : goal.returns-in-None-clause-comes
returns-in-None-clause-comes c = λ later end. c.in_ok-ticket.ensures (λ o. programs.serve_first c.args.kind o later end)
    ∙ ap (λ o. after (programs.serve_first c.args.kind o later end) c.peek.new.self) c.in-None.is
