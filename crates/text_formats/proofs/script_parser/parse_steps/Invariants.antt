use Rattle.std.proofs.Common.{ℕ, suc, length, ◌+◌, ◌≤◌}
use Rattle.text_formats.specs.declared.script.Script.{Script}
use Rattle.text_formats.specs.Scripts.{IsBadLine, IsNext, IsScriptText, with_line}
use Rattle.text_formats.specs.Cuts.{pieces}
use Rattle.text_formats.specs.Readings.{IsBad, Reads}
use Rattle.text_formats.proofs.script_parser.parse_steps.Given as goal

abbrev pub decreases-loop-line : goal.decreases-loop-line
decreases-loop-line l = length l.rest

abbrev pub invariant-loop-line : goal.invariant-loop-line
invariant-loop-line l = record {
  front : (whole : Script) → Reads IsNext with_line l.part l.script (pieces l.rest) whole → IsScriptText l.fn.text whole;
  back : (whole : Script) → IsScriptText l.fn.text whole → Reads IsNext with_line l.part l.script (pieces l.rest) whole;
  bad : (n : ℕ) → IsBad IsNext l.part (pieces l.rest) (suc n) → IsBadLine l.fn.text (l.number + n);
  few : l.number + length l.rest ≤ length l.fn.text + 1;
}
