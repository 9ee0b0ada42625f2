use Rattle.std.proofs.Common.{ℕ, drop}
use Rattle.std.specs.Prelude.{⊤}
use Rattle.std.specs.Ordering.{nat_cmp}
use Rattle.std.specs.FinMap as map
use Rattle.text_formats.specs.ScriptLines.{AreEntries, IsMap}
use Rattle.text_formats.specs.Tokens.{texts}
use Rattle.text_formats.proofs.script_line.read_entries.Given as goal

abbrev pub invariant-loop-token : goal.invariant-loop-token
invariant-loop-token l = record {
  front : (m : map.FinMap nat_cmp ℕ) → AreEntries (λ p. ⊤) l.last l.entries (texts (drop l.token-index l.tokens)) m
      → IsMap (texts l.tokens) m;
  back : (m : map.FinMap nat_cmp ℕ) → IsMap (texts l.tokens) m → AreEntries (λ p. ⊤) l.last l.entries
      (texts (drop l.token-index l.tokens)) m;
}
