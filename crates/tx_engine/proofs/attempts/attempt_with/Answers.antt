use Rattle.std.proofs.Common.{ap, ◌∙◌, subst, sym}
use Rattle.shared_table.specs.Seated.{opening_of}
use Rattle.shared_table.specs.declared.seat.Seat.{Seat}
use Rattle.tx_engine.specs.Ready.{standing}
use Rattle.tx_engine.proofs.ReadyLemmas.{still_ready}
use Rattle.tx_engine.specs.Attempts.{AttemptsTo}
use Rattle.tx_engine.proofs.attempts.attempt_with.Goals as goal

pub attempt_in-attempted-requires : goal.attempt_in-attempted-requires
attempt_in-attempted-requires g c =
    let same = c.take_replies-replies.ensures.same in
    record { ready = still_ready c.args.table.now c.args.seat.now c.take_replies-replies.new.self same.0 same.1 c.requires.ready }

pub returns-clause-ready : goal.returns-clause-ready
returns-clause-ready g c =
    let same = c.keep_replies.ensures.same in
    still_ready c.args.table.now c.attempt_in-attempted.new.seat c.keep_replies.new.self same.0 same.1 c.attempt_in-attempted.ensures.ready

pub returns-clause-rests : goal.returns-clause-rests
returns-clause-rests g c =
    ap (standing (opening_of c.args.table.now)) c.keep_replies.ensures.same.0 ∙ c.attempt_in-attempted.ensures.rests

pub returns-clause-attempts : goal.returns-clause-attempts
returns-clause-attempts g c =
    let V = g.row.V.Denot in
    let attempts : Seat V × Seat V → Type 0 =
    λ k. AttemptsTo (g.J.Job.asks c.args.job.now) (opening_of c.args.table.now) k.0 k.1 c.attempt_in-attempted.result in
    subst attempts (λ i. (c.take_replies-replies.ensures.same.0 i, sym c.keep_replies.ensures.same.0 i))
    c.attempt_in-attempted.ensures.attempts
