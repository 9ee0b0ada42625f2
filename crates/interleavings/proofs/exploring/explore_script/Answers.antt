use Rattle.std.proofs.Common.{◌<◌, ◌^◌, arith, refl, rules}
use Rattle.interleavings.proofs.exploring.explore_script.Goals as goal

pub loop-run-init : goal.loop-run-init
loop-run-init g c = record {
  outcomes = rw c.new-found.ensures.outcomes (λ k d lt. absurd (omega (arith, lt)));
  counted = rw (c.new-found.ensures.outcomes, c.new-found.ensures.runs) refl;
  few = omega (arith, c.new-found.ensures.runs);
}

pub loop-run-preserved : goal.loop-run-preserved
loop-run-preserved g c =
    let before = c.loop-run.invariant in
    let top : c.args.most < 2 ^ 64 = search rules in
    record {
      outcomes = c.in_ok-count.ensures.outcomes before.outcomes;
      counted = c.in_ok-count.ensures.counted before.counted (omega (arith, before.few, c.loop-run-test.true, top));
      few = omega (arith, c.in_ok-count.ensures.runs, before.few);
    }
