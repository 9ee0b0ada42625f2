use Rattle.std.proofs.Common.{rules, ◌≡◌, ◌+◌, ◌<◌, Ok, Result, ap, inl, inr, refl, subst, ◌∙◌, arith}
use Rattle.seq_model.specs.declared.refusal.Refusal.{Refusal}
use Rattle.shared_table.specs.Seated.{opening_of}
use Rattle.tx_engine.specs.Attempts.{AttemptsTo}
use Rattle.tx_engine.specs.declared.attempts.Attempt.{Attempt}
use Rattle.tx_engine.specs.Retries.{IsTransient}
use Rattle.tx_engine.proofs.TryLemmas.{all_in_vain, gives_up, has_receipt, none_yet, one_more, refused_last}
use Rattle.tx_engine.proofs.tries.retry_in.Goals as goal

pub tries-init : goal.tries-init
tries-init g c = record {
  ready = c.requires.ready;
  vain = none_yet (g.J.Job.asks c.args.job.now) c.args.table.now c.args.seat.now.seat;
  rests = inl refl;
  none = inl refl;
}

pub tries-preserved : goal.tries-preserved
tries-preserved g c =
    let asks = g.J.Job.asks c.args.job.now in
    let t = c.args.table.now in
    let s = c.args.seat.now.seat in
    let m = c.tries.seat.seat in
    let u = c.attempt_with.new.seat.seat in
    let cause = c.in-Err.refusal in
    let transient : IsTransient cause = search rules in
    let comes = c.in-Err.ensures.attempts in
    let vain = c.tries.invariant.vain in
    record {
      ready = c.attempt_with.ensures.ready;
      vain = one_more asks t c.tries.i s m u cause vain transient c.attempt_with.ensures.rests comes;
      rests = inr c.attempt_with.ensures.rests;
      none = inr (refused_last asks t c.tries.i (c.tries.i + 1) s m u cause (omega arith) vain (λ _. refl) comes);
    }

pub returns-in-Ok-Committed-clause-receipt : goal.returns-in-Ok-Committed-clause-receipt
returns-in-Ok-Committed-clause-receipt g c =
    let asks = g.J.Job.asks c.args.job.now in
    let t = c.args.table.now in
    let m = c.tries.seat.seat in
    let u = c.attempt_with.new.seat.seat in
    let few : c.tries.i < c.args.tries = search rules in
    let comes = subst (λ (r : Result (Attempt g.row.V.Denot) Refusal). AttemptsTo asks (opening_of t) m u r)
    (c.in-Ok-Committed.is ∙ ap Ok c.in-Ok-Committed.field-0-is) c.attempt_with.ensures.attempts in
    rw c.in-Ok-Committed.receipt-is (has_receipt asks t c.tries.i c.args.tries c.args.seat.now.seat m u c.in-Ok-Committed.receipt few
    c.tries.invariant.vain comes)

pub returns-in-Ok-GivenUp-clause-none : goal.returns-in-Ok-GivenUp-clause-none
returns-in-Ok-GivenUp-clause-none g c =
    let asks = g.J.Job.asks c.args.job.now in
    let t = c.args.table.now in
    let m = c.tries.seat.seat in
    let u = c.attempt_with.new.seat.seat in
    let few : c.tries.i < c.args.tries = search rules in
    let comes = subst (λ (r : Result (Attempt g.row.V.Denot) Refusal). AttemptsTo asks (opening_of t) m u r)
    (c.in-Ok-GivenUp.is ∙ ap Ok c.in-Ok-GivenUp.field-0-is) c.attempt_with.ensures.attempts in
    gives_up asks t c.tries.i c.args.tries c.args.seat.now.seat m u few c.tries.invariant.vain comes

pub returns-then-not-is_transient-clause-none : goal.returns-then-not-is_transient-clause-none
returns-then-not-is_transient-clause-none g c =
    let asks = g.J.Job.asks c.args.job.now in
    let few : c.tries.i < c.args.tries = search rules in
    let never : IsTransient c.in-Err.refusal → ⊥ = search rules in
    refused_last asks c.args.table.now c.tries.i c.args.tries c.args.seat.now.seat c.tries.seat.seat c.attempt_with.new.seat.seat
    c.in-Err.refusal few c.tries.invariant.vain (λ transient. absurd (never transient)) c.in-Err.ensures.attempts

pub returns-clause-none : goal.returns-clause-none
returns-clause-none g c =
    let end : c.tries.i ≡ c.args.tries = search rules in
    all_in_vain (g.J.Job.asks c.args.job.now) c.args.table.now c.tries.i c.args.tries c.args.seat.now.seat c.tries.seat.seat c.tries.last
    end c.requires.some c.tries.invariant.none
