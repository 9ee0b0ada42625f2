use Rattle.std.proofs.Common.{rules, arith, ℕ, ◌<◌}
use Rattle.text_formats.proofs.EntryLemmas.{entries_front, entries_back, some_copies}
use Rattle.text_formats.proofs.script_line.read_counts.Goals as goal

pub loop-token-preserved : goal.loop-token-preserved
loop-token-preserved c =
    let p : ℕ × ℕ = (c.in-Some.element, c.in-Some.count) in
    record {
      front = λ m h. c.loop-token.invariant.front m
          (entries_front (λ p. 0 < p.1) _ _ _ _ _ _ p _ c.loop-token-test.true (search rules)
          (some_copies _ _ _ _ (search (rules, arith, c.if-count-eq0.false)) c.in_ok-set_copies.ensures.ok) c.pair.ensures.found
          (omega (arith, c.if-count-eq0.false)) (search rules) m h);
      back = λ m h. entries_back (λ p. 0 < p.1) _ _ _ _ _ _ p _ c.loop-token-test.true (search rules)
          (some_copies _ _ _ _ (search (rules, arith, c.if-count-eq0.false)) c.in_ok-set_copies.ensures.ok) c.pair.ensures.only m
          (c.loop-token.invariant.back m h);
    }
