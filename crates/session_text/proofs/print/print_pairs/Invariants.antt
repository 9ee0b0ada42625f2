use Rattle.std.proofs.Common.{◌≡◌, ◌++◌}
use Rattle.std.specs.List.{flat_map}
use Rattle.std.specs.String.{string_bytes}
use Rattle.session_text.specs.TracePrints.{pair_text}
use Rattle.session_text.proofs.print.print_pairs.Given as goal

abbrev pub invariant-loop-key : goal.invariant-loop-key
invariant-loop-key l = string_bytes l.text ++ flat_map pair_text l.key-iterator ≡ string_bytes l.fn.text ++ flat_map pair_text l.fn.pairs
