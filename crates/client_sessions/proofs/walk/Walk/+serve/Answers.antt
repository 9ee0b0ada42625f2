use Rattle.std.proofs.Common.{◌∙◌, ap, arith, ◌+◌, ◌-◌}
use Rattle.std.proofs.lemmas.Result.{err_from_is_err_and}
use Rattle.seq_model.specs.Programs.{after}
use Rattle.client_sessions.specs.Sessions as programs
use Rattle.client_sessions.specs.Serving.{serves_on}
use Rattle.client_sessions.proofs.WalkLemmas.{stops_along, serve_some}
use Rattle.client_sessions.proofs.walk.Walk.+serve.Goals as goal

pub returns-in_err-one-clause-comes : goal.returns-in_err-one-clause-comes
returns-in_err-one-clause-comes t c =
    λ next. let p = err_from_is_err_and c.from_residual.result c.from_residual.ensures.1 in
    rw (p.1, p.2) (stops_along _ _ _
    (ap (λ p. after p c.args.self.now)
    (serve_some c.args.most c.args.kind next (c.args.most - 1) (omega (arith, c.if-most-eq0.false))))
    (c.in_err-one.ensures.comes (λ one. programs.serve (c.args.most - 1) c.args.kind (λ more. next (one + more))) (next 0)))

pub returns-in_err-more-in-Some-clause-comes : goal.returns-in_err-more-in-Some-clause-comes
returns-in_err-more-in-Some-clause-comes t c =
    λ next. let p = err_from_is_err_and c.from_residual-in_err-more-in-Some.result c.from_residual-in_err-more-in-Some.ensures.1 in
    rw (p.1, p.2) (stops_along _ _ _
    (ap (λ p. after p c.args.self.now)
    (serve_some c.args.most c.args.kind next (c.args.most - 1) (omega (arith, c.if-most-eq0.false)))
    ∙ c.in_ok-one.ensures.comes (λ one. programs.serve (c.args.most - 1) c.args.kind (λ more. next (one + more))) (next 0)
    ∙ ap (λ o. after (serves_on o (λ one. programs.serve (c.args.most - 1) c.args.kind (λ more. next (one + more)))
    (next 0)) c.serve_one.new.self) c.in-Some.is)
    (c.in_err-more-in-Some.ensures.comes (λ more. next (c.in-Some.one + more))))

pub returns-in_ok-more-in-Some-clause-comes : goal.returns-in_ok-more-in-Some-clause-comes
returns-in_ok-more-in-Some-clause-comes t c =
    λ next. ap (λ p. after p c.args.self.now)
    (serve_some c.args.most c.args.kind next (c.args.most - 1) (omega (arith, c.if-most-eq0.false)))
    ∙ c.in_ok-one.ensures.comes (λ one. programs.serve (c.args.most - 1) c.args.kind (λ more. next (one + more))) (next 0)
    ∙ ap (λ o. after (serves_on o (λ one. programs.serve (c.args.most - 1) c.args.kind (λ more. next (one + more)))
    (next 0)) c.serve_one.new.self) c.in-Some.is
    ∙ c.in_ok-more-in-Some.ensures.comes (λ more. next (c.in-Some.one + more))

pub returns-in-None-clause-comes : goal.returns-in-None-clause-comes
returns-in-None-clause-comes t c =
    λ next. ap (λ p. after p c.args.self.now)
    (serve_some c.args.most c.args.kind next (c.args.most - 1) (omega (arith, c.if-most-eq0.false)))
    ∙ c.in_ok-one.ensures.comes (λ one. programs.serve (c.args.most - 1) c.args.kind (λ more. next (one + more))) (next 0)
    ∙ ap (λ o. after (serves_on o (λ one. programs.serve (c.args.most - 1) c.args.kind (λ more. next (one + more)))
    (next 0)) c.serve_one.new.self) c.in-None.is
