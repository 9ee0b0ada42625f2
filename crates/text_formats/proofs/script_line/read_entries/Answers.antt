use Rattle.std.proofs.Common.{rules, ℕ}
use Rattle.std.specs.Prelude.{⊤}
use Rattle.text_formats.proofs.EntryLemmas.{entries_front, entries_back}
use Rattle.text_formats.proofs.script_line.read_entries.Goals as goal

pub loop-token-preserved : goal.loop-token-preserved
loop-token-preserved c =
    let p : ℕ × ℕ = (c.in-Some.key, c.in-Some.value) in
    record {
      front = λ m h. c.loop-token.invariant.front m
          (entries_front (λ p. ⊤) _ _ _ _ _ _ p _ c.loop-token-test.true (search rules) c.in_ok-insert.ensures.ok
          c.pair.ensures.found tt (search rules) m h);
      back = λ m h. entries_back (λ p. ⊤) _ _ _ _ _ _ p _ c.loop-token-test.true (search rules)
          c.in_ok-insert.ensures.ok c.pair.ensures.only m
          (c.loop-token.invariant.back m h);
    }
