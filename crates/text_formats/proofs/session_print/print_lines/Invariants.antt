use Rattle.std.proofs.Common.{◌≡◌, ◌++◌, ◌+◌, drop}
use Rattle.std.specs.String.{string_bytes}
use Rattle.text_formats.specs.SessionPrints.{lines_text}
use Rattle.text_formats.proofs.session_print.print_lines.Given as goal

abbrev pub invariant-loop-line : goal.invariant-loop-line
invariant-loop-line l = record {
  session : l.session ≡ l.line-index + 1;
  told : string_bytes l.text ++ lines_text l.session (drop l.line-index l.lines) ≡ string_bytes l.fn.text ++ lines_text 1 l.lines;
}
