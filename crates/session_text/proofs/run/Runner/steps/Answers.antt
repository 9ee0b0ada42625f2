use Rattle.std.proofs.Common.{arith}
use Rattle.session_text.proofs.PlayLemmas.{all_quiet, kept_as, loud_last, played_on, quiet_on}
use Rattle.session_text.proofs.run.Runner.steps.Goals as goal

pub returns-then-not-branch : goal.returns-then-not-branch
returns-then-not-branch c =
    let loud = c.if-not-branch.true in
    played_on (λ xs ys ms ns _ _ _ quiet one. loud_last c.args.actor c.args.count c.loop-taken._taken xs ys ms ns c.loop-taken-test.true
    quiet one)
    c.loop-taken.invariant (rw loud at c.in_ok-happen.ensures)

pub loop-taken-preserved : goal.loop-taken-preserved
loop-taken-preserved c =
    let quiet = c.if-not-branch.false in
    played_on (λ xs ys ms ns _ _ _ steps one. quiet_on c.args.actor c.loop-taken._taken xs ys ms ns steps one)
    c.loop-taken.invariant (rw quiet at c.in_ok-happen.ensures)

pub returns : goal.returns
returns c =
    kept_as (λ xs ms _ steps. all_quiet c.args.actor c.args.count c.loop-taken._taken xs ms
    (omega (arith, c.loop-taken-test.false, c.loop-taken.auto._taken-end)) steps) c.loop-taken.invariant
