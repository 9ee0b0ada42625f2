use Rattle.std.proofs.Common.{◌≡◌, ◌++◌}
use Rattle.std.specs.FinMap as map
use Rattle.std.specs.List.{flat_map}
use Rattle.std.specs.String.{string_bytes}
use Rattle.text_formats.specs.SessionPrints.{customer_line}
use Rattle.text_formats.proofs.session_print.print_customers.Given as goal

abbrev pub invariant-loop-number : goal.invariant-loop-number
invariant-loop-number l = string_bytes l.text ++ flat_map customer_line l.number-iterator ≡
    string_bytes l.fn.text ++ flat_map customer_line (map.entries l.tables.customers)
