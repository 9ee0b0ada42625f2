use Rattle.std.proofs.Common.{◌≡◌, ◌++◌, take}
use Rattle.std.specs.List.{flat_map}
use Rattle.std.specs.String.{string_bytes}
use Rattle.text_formats.specs.SessionPrints.{wait_text}
use Rattle.text_formats.proofs.session_print.print_waits.Given as goal

abbrev pub invariant-loop-wait : goal.invariant-loop-wait
invariant-loop-wait l = string_bytes l.text ≡ string_bytes l.fn.text ++ flat_map wait_text (take l.wait-index l.waits)
