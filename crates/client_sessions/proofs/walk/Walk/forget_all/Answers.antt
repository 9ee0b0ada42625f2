use Rattle.std.proofs.Common.{◌∙◌, ◌+◌, ap, drop, sym}
use Rattle.std.proofs.lemmas.Result.{err_from_is_err_and}
use Rattle.seq_model.specs.Programs.{after}
use Rattle.client_sessions.specs.Sessions as programs
use Rattle.client_sessions.proofs.WalkLemmas.{stops_along, forget_next, forgotten}
use Rattle.client_sessions.proofs.walk.Walk.forget_all.Goals as goal

pub loop-i-init : goal.loop-i-init
loop-i-init c = λ next.
    forgotten c.skip-passed.result c.args.waits.now next c.args.self.now c.skip-passed.ensures.few c.skip-passed.ensures.told
    ∙ ap (after (programs.forget_all (drop c.skip-passed.result c.args.waits.now) next)) (sym c.skip-passed.ensures.taken)

pub returns-in_err-remove_ticket : goal.returns-in_err-remove_ticket
returns-in_err-remove_ticket c =
    let l = c.loop-i in
    λ next. let p = err_from_is_err_and c.from_residual.result c.from_residual.ensures.1 in rw (p.1, p.2) (stops_along _ _ _
    (l.invariant next ∙ forget_next c.args.waits.now l.i _ next l.self c.loop-i-test.true)
    (c.in_err-remove_ticket.ensures (programs.forget_all (drop (l.i + 1) c.args.waits.now) next)))

pub loop-i-preserved : goal.loop-i-preserved
loop-i-preserved c =
    let l = c.loop-i in
    λ next. l.invariant next ∙ forget_next c.args.waits.now l.i _ next l.self c.loop-i-test.true
    ∙ c.in_ok-remove_ticket.ensures (programs.forget_all (drop (l.i + 1) c.args.waits.now) next)
