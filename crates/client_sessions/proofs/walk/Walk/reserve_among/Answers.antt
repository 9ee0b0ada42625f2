use Rattle.std.proofs.Common.{◌∙◌, ap, sym}
use Rattle.std.proofs.lemmas.Result.{err_from_is_err_and}
use Rattle.seq_model.specs.Programs.{after}
use Rattle.client_sessions.specs.Sessions as programs
use Rattle.client_sessions.proofs.WalkLemmas.{someone, along, stops_along}
use Rattle.client_sessions.proofs.walk.Walk.reserve_among.Goals as goal

pub returns-in_err-found : goal.returns-in_err-found
returns-in_err-found c =
    let b = c.args.best.now in
    let p = err_from_is_err_and c.from_residual.result c.from_residual.ensures.1 in
    rw (p.1, p.2) (stops_along _ _ _ (ap (λ q. after q c.args.self.now)
    (someone c.args.customer c.args.units b.car b.flight b.room (sym c.no_candidate.ensures ∙ c.if-no_candidate.false)))
    (c.in_err-found.ensures.comes (programs.decide_all c.args.customer c.args.units b.car b.flight b.room)))

pub returns : goal.returns
returns c =
    let b = c.args.best.now in
    along _ _ _ _ (ap (λ q. after q c.args.self.now)
    (someone c.args.customer c.args.units b.car b.flight b.room (sym c.no_candidate.ensures ∙ c.if-no_candidate.false))
    ∙ c.in_ok-found.ensures.comes (programs.decide_all c.args.customer c.args.units b.car b.flight b.room)) c.decide_all.ensures
