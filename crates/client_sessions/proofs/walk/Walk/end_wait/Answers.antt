use Rattle.std.proofs.lemmas.Result.{err_from_is_err_and}
use Rattle.client_sessions.specs.Sessions as programs
use Rattle.client_sessions.proofs.WalkLemmas.{along}
use Rattle.client_sessions.proofs.walk.Walk.end_wait.Goals as goal

pub returns-in_err-dequeue : goal.returns-in_err-dequeue
returns-in_err-dequeue c = λ next. let p = err_from_is_err_and c.from_residual.result c.from_residual.ensures.1 in
    rw (p.1, p.2) (c.in_err-dequeue.ensures (programs.remove_ticket c.args.ticket next))

pub returns : goal.returns
returns c = λ next. along _ _ _ _ (c.in_ok-dequeue.ensures (programs.remove_ticket c.args.ticket next)) (c.remove_ticket.ensures next)
