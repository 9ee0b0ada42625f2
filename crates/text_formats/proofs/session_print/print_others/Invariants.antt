use Rattle.std.proofs.Common.{◌≡◌, ◌++◌, take, codes}
use Rattle.std.specs.List.{flat_map}
use Rattle.std.specs.String.{string_bytes}
use Rattle.text_formats.specs.SessionPrints.{changed_text}
use Rattle.text_formats.proofs.session_print.print_others.Given as goal

abbrev pub invariant-loop-changed : goal.invariant-loop-changed
invariant-loop-changed l = string_bytes l.text ≡ string_bytes l.fn.text ++ flat_map (λ made. codes " " ++ changed_text made)
    (take l.changed-index l.changes)
