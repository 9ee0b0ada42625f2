use Rattle.std.proofs.Common.{◌≡◌, ◌++◌, length}
use Rattle.std.specs.String.{string_bytes}
use Rattle.session_text.specs.Lanes.{rows_text}
use Rattle.session_text.proofs.lanes.print_rows.Given as goal

abbrev pub decreases-loop-row : goal.decreases-loop-row
decreases-loop-row l = length l.left

abbrev pub invariant-loop-row : goal.invariant-loop-row
invariant-loop-row l =
    string_bytes l.text ++ rows_text l.layout (length l.rows) l.left ≡ string_bytes l.fn.text ++ rows_text l.layout (length l.rows) l.rows
