use Rattle.std.proofs.Common.{rules, ◌≡◌, Err, arith, subst}
use Rattle.std.specs.Prelude.{OnErr, Result}
use Rattle.seq_model.specs.declared.record.Record.{Record}
use Rattle.seq_model.specs.Refusals.{IsConflict}
use Rattle.seq_model.specs.declared.failure.Failure.{Failure}
use Rattle.seq_model.specs.declared.failure.Failure.TheVariants.{Refused}
use Rattle.tx_client.specs.Ends.{HasGainedNone}
use Rattle.tx_client.proofs.RequestKindLemmas.{then_asks}
use Rattle.tx_client.proofs.EndLemmas.{gained_none, then_ends}
use Rattle.tx_client.proofs.TallyLemmas.{first_end, next_end}
use Rattle.tx_client.proofs.attempts.retry.Goals as goal

pub tries-init : goal.tries-init
tries-init g c = record {
  ready = c.attempt-seat.ensures.ready;
  ends = c.attempt-seat.ensures.ends;
  asks = c.attempt-seat.ensures.asks;
  counted = first_end c.args.tally _ c.attempt-seat.result.1 c.with_end-counted.ensures;
  few = omega arith;
  reads = c.attempt-seat.ensures.reads;
}

pub tries-preserved : goal.tries-preserved
tries-preserved g c =
    let makes = g.B.Body.makes c.args.body.now in
    let aborts = g.B.Body.aborts c.args.body.now in
    let s = c.args.seat.seat in
    let m = c.tries.seat.seat in
    let is : c.tries.ended ≡ Err (Refused c.in-Err-Refused.cause) = search rules in
    let none : HasGainedNone s m =
    subst (λ (r : Result (g.row.B-Out.Denot × Record g.row.V.Denot) (Failure g.row.B-Error.Denot)). OnErr r (HasGainedNone s m)) is
    (gained_none makes aborts s m c.tries.ended c.tries.invariant.ends) in
    let conflict : IsConflict c.in-Err-Refused.cause = search rules in
    record {
      ready = c.attempt.ensures.ready;
      ends = then_ends makes aborts s m c.attempt.result.0.seat c.attempt.result.1 none c.attempt.ensures.ends;
      asks = then_asks c.args.declared _ _ _ c.tries.invariant.asks c.attempt.ensures.asks;
      counted = next_end _ _ _ _ c.tries.ended c.in-Err-Refused.cause c.attempt.result.1 is conflict c.tries.invariant.counted
          c.with_end-counted-in-Err-Refused.ensures;
      few = omega arith;
      reads = c.attempt.ensures.reads;
    }
