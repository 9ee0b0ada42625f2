use Rattle.std.proofs.Common.{◌≡◌, ℕ, List, ◌++◌, drop}
use Rattle.text_formats.specs.ScriptLines.{AreNumbers}
use Rattle.text_formats.specs.Tokens.{texts}
use Rattle.text_formats.proofs.script_line.read_numbers.Given as goal

abbrev pub invariant-loop-token : goal.invariant-loop-token
invariant-loop-token l = record {
  front : (ns : List ℕ) → AreNumbers (texts (drop l.token-index l.tokens)) ns → AreNumbers (texts l.tokens) (l.numbers ++ ns);
  back : (ns : List ℕ) → AreNumbers (texts l.tokens) ns → (ms : List ℕ) ×
      AreNumbers (texts (drop l.token-index l.tokens)) ms × (ns ≡ l.numbers ++ ms);
}
