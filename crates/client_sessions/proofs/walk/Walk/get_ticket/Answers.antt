use Rattle.std.proofs.lemmas.Result.{err_from_is_err_and}
use Rattle.client_sessions.specs.Sessions as programs
use Rattle.client_sessions.proofs.WalkLemmas.{along}
use Rattle.client_sessions.proofs.walk.Walk.get_ticket.Goals as goal

pub returns-in_err-reply : goal.returns-in_err-reply
returns-in_err-reply c = λ next. let p = err_from_is_err_and c.from_residual.result c.from_residual.ensures.1 in
    rw (p.1, p.2) (c.in_err-reply.ensures (λ r. programs.ticket_in r next))

pub returns : goal.returns
returns c = λ next. along _ _ _ _ (c.in_ok-reply.ensures (λ r. programs.ticket_in r next)) (c.ticket_in.ensures next _)
