use Rattle.std.proofs.Common.{◌∙◌, ◌+◌, drop}
use Rattle.std.proofs.lemmas.Result.{err_from_is_err_and}
use Rattle.client_sessions.specs.Sessions as programs
use Rattle.client_sessions.proofs.WalkLemmas.{stops_along, back_next}
use Rattle.client_sessions.proofs.walk.Walk.give_list_back.Goals as goal

pub returns-in_err-passed : goal.returns-in_err-passed
returns-in_err-passed c = λ next. let p = err_from_is_err_and c.from_residual.result c.from_residual.ensures.1 in
    rw (p.1, p.2) (c.in_err-passed.ensures.comes next)

pub returns-in_err-give_back : goal.returns-in_err-give_back
returns-in_err-give_back c =
    let l = c.loop-i in
    λ next. let p = err_from_is_err_and c.from_residual-in_err-give_back.result c.from_residual-in_err-give_back.ensures.1 in
    rw (p.1, p.2) (stops_along _ _ _
    (l.invariant next ∙ back_next c.args.bookings.now l.i _ next l.self c.loop-i-test.true)
    (c.in_err-give_back.ensures (programs.give_all_back (drop (l.i + 1) c.args.bookings.now) next)))

pub loop-i-preserved : goal.loop-i-preserved
loop-i-preserved c =
    let l = c.loop-i in
    λ next. l.invariant next ∙ back_next c.args.bookings.now l.i _ next l.self c.loop-i-test.true
    ∙ c.in_ok-give_back.ensures (programs.give_all_back (drop (l.i + 1) c.args.bookings.now) next)
