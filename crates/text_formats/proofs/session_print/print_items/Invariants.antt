use Rattle.std.proofs.Common.{◌≡◌, ◌++◌}
use Rattle.std.specs.List.{flat_map}
use Rattle.std.specs.String.{string_bytes}
use Rattle.text_formats.specs.SessionPrints.{item_line, items_text}
use Rattle.text_formats.proofs.session_print.print_items.Given as goal

abbrev pub invariant-loop-id : goal.invariant-loop-id
invariant-loop-id l = string_bytes l.text ++ flat_map
    (item_line l.fn.kind) l.id-iterator ≡ string_bytes l.fn.text ++ items_text l.fn.kind l.tables
