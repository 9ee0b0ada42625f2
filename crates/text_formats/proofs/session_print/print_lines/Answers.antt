use Rattle.std.proofs.Common.{refl, arith, ◌∙◌}
use Rattle.std.specs.String.{string_bytes}
use Rattle.text_formats.proofs.PrintLemmas.{told_on}
use Rattle.text_formats.proofs.session_print.print_lines.Goals as goal

pub loop-line-init : goal.loop-line-init
loop-line-init c = record { session = refl; told = refl }

pub loop-line-preserved : goal.loop-line-preserved
loop-line-preserved c = record {
  session = omega (arith, c.loop-line.invariant.session);
  told = told_on c.args.lines.now c.loop-line.line-index c.line-item.result c.loop-line.session (string_bytes c.loop-line.text)
      (string_bytes c.print_line.new.text) c.loop-line-test.true c.line-item.is c.in_ok-print_line.ensures ∙ c.loop-line.invariant.told;
}
