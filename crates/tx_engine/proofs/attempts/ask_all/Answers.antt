use Rattle.std.proofs.Common.{◌∙◌, arith, inl, refl, subst, sym}
use Rattle.std.proofs.lemmas.Result.{err_from_is_err_and}
use Rattle.shared_table.specs.Seated.{acts, opening_of}
use Rattle.tx_engine.proofs.AttemptLemmas.{fresh_so_far, keeps_self, reaches_before, unmade_before}
use Rattle.tx_engine.proofs.RequestLemmas.{then_keeps}
use Rattle.tx_engine.specs.Attempts.{IsSoFar}
use Rattle.tx_engine.proofs.attempts.ask_all.Goals as goal

pub returns-in_err-end-clause-keeps : goal.returns-in_err-end-clause-keeps
returns-in_err-end-clause-keeps g c =
    then_keeps c.args.seat.now.seat c.calls.seat.seat c.ask_next.new.seat.seat c.calls.invariant.keeps c.ask_next.ensures.keeps

pub returns-in_err-end-clause-refused : goal.returns-in_err-end-clause-refused
returns-in_err-end-clause-refused g c =
    let p = err_from_is_err_and c.from_residual.result c.from_residual.ensures.1 in
    let o = opening_of c.args.table.now in
    rw (p.1, p.2) (unmade_before (g.J.Job.asks c.args.job.now) o (acts o c.args.seat.now.seat).aborted (acts o c.calls.seat.seat).aborted
    c.args.seat.now.seat c.calls.seat.seat c.ask_next.new.seat.seat c.calls.invariant.keeps c.calls.invariant.same _
    c.in_err-end.ensures.refused)

pub returns-in-Some-clause-keeps : goal.returns-in-Some-clause-keeps
returns-in-Some-clause-keeps g c =
    then_keeps c.args.seat.now.seat c.calls.seat.seat c.ask_next.new.seat.seat c.calls.invariant.keeps c.ask_next.ensures.keeps

pub returns-in-Some-clause-reaches : goal.returns-in-Some-clause-reaches
returns-in-Some-clause-reaches g c =
    let o = opening_of c.args.table.now in
    reaches_before (g.J.Job.asks c.args.job.now) o (acts o c.args.seat.now.seat).aborted (acts o c.calls.seat.seat).aborted
    c.args.seat.now.seat c.calls.seat.seat c.ask_next.new.seat.seat c.calls.invariant.keeps c.calls.invariant.same c.in-Some.end
    (rw c.in-Some.is at c.in_ok-end.ensures.reaches)

pub calls-preserved : goal.calls-preserved
calls-preserved g c = record {
  ready = c.ask_next.ensures.ready;
  since = c.ask_next.ensures.since;
  keeps = then_keeps c.args.seat.now.seat c.calls.seat.seat c.ask_next.new.seat.seat c.calls.invariant.keeps c.ask_next.ensures.keeps;
  same = (rw c.in-None.is at c.in_ok-end.ensures.same) ∙ c.calls.invariant.same;
  begins = c.ask_next.ensures.begins ∙ c.calls.invariant.begins;
  so_far = (rw c.in-None.is at c.in_ok-end.ensures.so_far);
  place = (rw c.in-None.is at c.in_ok-end.ensures.place);
}

pub returns-in_err-end-clause-begins : goal.returns-in_err-end-clause-begins
returns-in_err-end-clause-begins g c = c.ask_next.ensures.begins ∙ c.calls.invariant.begins

pub returns-in-Some-clause-begins : goal.returns-in-Some-clause-begins
returns-in-Some-clause-begins g c = c.ask_next.ensures.begins ∙ c.calls.invariant.begins

pub calls-init : goal.calls-init
calls-init g c =
    let asks = g.J.Job.asks c.args.job.now in
    let o = opening_of c.args.table.now in
    let s = c.args.seat.now.seat in
    let new = c.new-place.ensures in
    record {
      ready = c.requires.ready;
      since = c.requires.since;
      keeps = keeps_self s;
      same = refl;
      begins = refl;
      so_far = subst (λ rs. IsSoFar asks o s rs) (sym c.clear.ensures.items) (fresh_so_far asks o s c.requires.fresh);
      place = (omega (arith, new), inl new);
    }
