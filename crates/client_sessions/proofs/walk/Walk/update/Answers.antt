use Rattle.std.proofs.Common.{◌∙◌, ap, List, ◌∷◌, ◌++◌, ◌+◌, drop}
use Rattle.std.proofs.lemmas.Result.{err_from_is_err_and}
use Rattle.seq_model.specs.Programs.{after}
use Rattle.vac_model.specs.declared.action.ChangeReply.{ChangeReply}
use Rattle.client_sessions.specs.Sessions as programs
use Rattle.client_sessions.specs.Sessions.{SessionProgram}
use Rattle.client_sessions.proofs.WalkLemmas.{stops_along, each_next, made_on}
use Rattle.client_sessions.proofs.walk.Walk.update.Goals as goal

pub returns-in_err-one : goal.returns-in_err-one
returns-in_err-one c =
    let l = c.loop-change in
    λ next. let p = err_from_is_err_and c.from_residual-in_err-one.result c.from_residual-in_err-one.ensures.1 in
    rw (p.1, p.2) (stops_along _ _ _
    (l.invariant next ∙ each_next c.args.changes.now l.change-index _ (λ more. next (l.made ++ more)) l.self c.loop-change-test.true)
    (c.in_err-one.ensures (λ made. programs.change_each (drop (l.change-index + 1) c.args.changes.now)
    (λ more. next (l.made ++ (made ∷ more))))))

pub loop-change-preserved : goal.loop-change-preserved
loop-change-preserved c =
    let l = c.loop-change in
    λ next. l.invariant next ∙ each_next c.args.changes.now l.change-index _ (λ more. next (l.made ++ more)) l.self c.loop-change-test.true
    ∙ c.in_ok-one.ensures (λ made. programs.change_each (drop (l.change-index + 1) c.args.changes.now)
    (λ more. next (l.made ++ (made ∷ more))))
    ∙ ap (λ (k : List ChangeReply → SessionProgram).
    after (programs.change_each (drop (l.change-index + 1) c.args.changes.now) k) c.change_one.new.self)
    (made_on l.made c.push.new.self c.in_ok-one.one c.in_ok-push.ensures.ok next)
