use Rattle.std.proofs.lemmas.Result.{err_from_is_err_and}
use Rattle.client_sessions.specs.Sessions as programs
use Rattle.client_sessions.proofs.WalkLemmas.{along}
use Rattle.client_sessions.proofs.walk.Walk.read_next.Goals as goal

pub returns-in_err-reply-clause-comes : goal.returns-in_err-reply-clause-comes
returns-in_err-reply-clause-comes c = λ next. let p = err_from_is_err_and c.from_residual.result c.from_residual.ensures.1 in
    rw (p.1, p.2) (c.in_err-reply.ensures (λ r. programs.next_in r next))

pub returns-clause-comes : goal.returns-clause-comes
returns-clause-comes c = λ next. along _ _ _ _ (c.in_ok-reply.ensures (λ r. programs.next_in r next)) (c.next_in.ensures.comes next _)
