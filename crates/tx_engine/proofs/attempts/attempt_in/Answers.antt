use Rattle.std.proofs.Common.{ap, inl, sym, ◌∙◌}
use Rattle.std.proofs.lemmas.Result.{err_from_is_err_and}
use Rattle.shared_table.specs.Seated.{acts, opening_of}
use Rattle.tx_engine.proofs.RequestLemmas.{then_keeps}
use Rattle.tx_engine.proofs.AttemptLemmas.{aborted_and_made, aborted_first, at_end, broken_off, commit_refused, given_up, has_begun}
use Rattle.tx_engine.proofs.AttemptLemmas.{has_made}
use Rattle.tx_engine.proofs.ReaderLemmas.{changes_nothing}
use Rattle.tx_engine.proofs.attempts.attempt_in.Goals as goal

pub returns-in_err-begin-clause-attempts : goal.returns-in_err-begin-clause-attempts
returns-in_err-begin-clause-attempts g c =
    let p = err_from_is_err_and c.from_residual.result c.from_residual.ensures.1 in
    rw (p.1, p.2) (
      (c.begin.ensures.keeps, inl (c.in_err-begin.ensures.refused, c.begin.ensures.aborts)),
      c.begin.ensures.begins,
      c.begin.ensures.aborted,
    )

pub returns-in_err-receipt-in-Ok-Done-clause-attempts : goal.returns-in_err-receipt-in-Ok-Done-clause-attempts
returns-in_err-receipt-in-Ok-Done-clause-attempts g c =
    let asks = g.J.Job.asks c.args.job.now in
    let o = opening_of c.args.table.now in
    let done = at_end asks o (acts o c.begin.new.seat.seat).aborted c.begin.new.seat.seat c.ask_all.new.seat.seat _ _
    c.in-Ok-Done.field-0-is c.in-Ok-Done.ensures.reaches in
    let left = c.from_residual-in_err-receipt-in-Ok-Done in
    let p = err_from_is_err_and left.result left.ensures.1 in
    rw (p.1, p.2) (
      commit_refused asks o c.args.seat.now.seat c.begin.new.seat.seat c.ask_all.new.seat.seat c.commit.new.self.seat _
          c.begin.ensures.keeps
          (has_begun o c.args.seat.now.seat c.begin.new.seat.seat c.ask_all.new.seat.seat _ c.in_ok-begin.ensures.begun
          c.begin.ensures.begins c.begin.ensures.aborts c.ask_all.ensures.keeps c.ask_all.ensures.begins)
          done c.in_err-receipt-in-Ok-Done.ensures.finished.commits,
      c.commit.ensures.finished.begins ∙ (c.ask_all.ensures.begins ∙ c.begin.ensures.begins),
      aborted_first asks o c.args.seat.now.seat c.begin.new.seat.seat c.commit.new.self.seat
          (then_keeps c.begin.new.seat.seat c.ask_all.new.seat.seat c.commit.new.self.seat c.ask_all.ensures.keeps
          c.in_err-receipt-in-Ok-Done.ensures.finished.commits.keeps) c.begin.ensures.aborted,
    )

pub returns-in_ok-receipt-in-Ok-Done-clause-attempts : goal.returns-in_ok-receipt-in-Ok-Done-clause-attempts
returns-in_ok-receipt-in-Ok-Done-clause-attempts g c =
    let asks = g.J.Job.asks c.args.job.now in
    let o = opening_of c.args.table.now in
    let e = c.in_ok-receipt-in-Ok-Done.ensures.finished in
    let made = e.commits in (
      has_made asks o c.args.seat.now.seat c.begin.new.seat.seat c.ask_all.new.seat.seat c.commit.new.self.seat
          c.in_ok-receipt-in-Ok-Done.receipt c.begin.ensures.keeps
          (has_begun o c.args.seat.now.seat c.begin.new.seat.seat c.ask_all.new.seat.seat _ c.in_ok-begin.ensures.begun
          c.begin.ensures.begins c.begin.ensures.aborts c.ask_all.ensures.keeps c.ask_all.ensures.begins)
          (at_end asks o (acts o c.begin.new.seat.seat).aborted c.begin.new.seat.seat c.ask_all.new.seat.seat _ _
          c.in-Ok-Done.field-0-is c.in-Ok-Done.ensures.reaches)
          made
          (λ none. changes_nothing o c.ask_all.new.seat.seat c.in_ok-receipt-in-Ok-Done.receipt.calls c.ask_all.ensures.ready.ties.reached
          made.calls (sym made.writes ∙ none))
          e.above e.last,
      c.commit.ensures.finished.begins ∙ (c.ask_all.ensures.begins ∙ c.begin.ensures.begins),
      aborted_and_made asks o c.args.seat.now.seat c.begin.new.seat.seat c.ask_all.new.seat.seat c.commit.new.self.seat
          c.in_ok-receipt-in-Ok-Done.receipt c.ask_all.ensures.keeps made.committed c.begin.ensures.aborted,
    )

pub returns-in-Ok-GivenUp-clause-attempts : goal.returns-in-Ok-GivenUp-clause-attempts
returns-in-Ok-GivenUp-clause-attempts g c =
    let asks = g.J.Job.asks c.args.job.now in
    let o = opening_of c.args.table.now in (
      given_up asks o c.args.seat.now.seat c.begin.new.seat.seat c.ask_all.new.seat.seat c.abort.new.self.seat c.begin.ensures.keeps
          (has_begun o c.args.seat.now.seat c.begin.new.seat.seat c.ask_all.new.seat.seat _ c.in_ok-begin.ensures.begun
          c.begin.ensures.begins c.begin.ensures.aborts c.ask_all.ensures.keeps c.ask_all.ensures.begins)
          (at_end asks o (acts o c.begin.new.seat.seat).aborted c.begin.new.seat.seat c.ask_all.new.seat.seat _ _
          c.in-Ok-GivenUp.field-0-is c.in-Ok-GivenUp.ensures.reaches)
          c.abort.ensures.keeps c.abort.ensures.aborted c.abort.ensures.noted,
      c.abort.ensures.begins ∙ (c.ask_all.ensures.begins ∙ c.begin.ensures.begins),
      aborted_first asks o c.args.seat.now.seat c.begin.new.seat.seat c.abort.new.self.seat
          (then_keeps c.begin.new.seat.seat c.ask_all.new.seat.seat c.abort.new.self.seat c.ask_all.ensures.keeps c.abort.ensures.keeps)
          c.begin.ensures.aborted,
    )

pub returns-in-Err-clause-attempts : goal.returns-in-Err-clause-attempts
returns-in-Err-clause-attempts g c = (
  broken_off (g.J.Job.asks c.args.job.now) (opening_of c.args.table.now) c.args.seat.now.seat c.begin.new.seat.seat
      c.ask_all.new.seat.seat c.abort-in-Err.new.self.seat c.in-Err.cause c.begin.ensures.keeps c.ask_all.ensures.keeps
      (has_begun (opening_of c.args.table.now) c.args.seat.now.seat c.begin.new.seat.seat c.ask_all.new.seat.seat _
      c.in_ok-begin.ensures.begun c.begin.ensures.begins c.begin.ensures.aborts c.ask_all.ensures.keeps c.ask_all.ensures.begins)
      c.in-Err.ensures.refused c.abort-in-Err.ensures.keeps c.abort-in-Err.ensures.aborted c.abort-in-Err.ensures.noted
      (λ rests. ap (λ k. k.seat) (c.abort-in-Err.ensures.none rests)),
  c.abort-in-Err.ensures.begins ∙ (c.ask_all.ensures.begins ∙ c.begin.ensures.begins),
  aborted_first (g.J.Job.asks c.args.job.now) (opening_of c.args.table.now) c.args.seat.now.seat c.begin.new.seat.seat
      c.abort-in-Err.new.self.seat
      (then_keeps c.begin.new.seat.seat c.ask_all.new.seat.seat c.abort-in-Err.new.self.seat c.ask_all.ensures.keeps
      c.abort-in-Err.ensures.keeps) c.begin.ensures.aborted,
)
