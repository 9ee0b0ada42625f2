use Rattle.std.proofs.lemmas.Result.{err_from_is_err_and}
use Rattle.client_sessions.proofs.walk.Walk.remove_ticket.Goals as goal

pub returns-in_err-reply : goal.returns-in_err-reply
returns-in_err-reply c = λ next. let p = err_from_is_err_and c.from_residual.result c.from_residual.ensures.1 in
    rw (p.1, p.2) (c.in_err-reply.ensures (λ _. next))

pub returns : goal.returns
returns c = λ next. c.in_ok-reply.ensures (λ _. next)
