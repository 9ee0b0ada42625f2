use Rattle.std.proofs.Common.{◌∙◌, ap, append-nil, length, sym}
use Rattle.std.specs.String.{string_bytes}
use Rattle.session_text.proofs.LaneLemmas.{rows_end, rows_on}
use Rattle.session_text.proofs.lanes.print_rows.Goals as goal

pub loop-row-preserved : goal.loop-row-preserved
loop-row-preserved c =
    rows_on c.args.layout.now (length c.args.rows.now) c.saturating_sub-number.result c.in-Some.row.now c.loop-row.left.now
    c.in-Some.later.now
    (string_bytes c.loop-row.text) (string_bytes c.print_row.new.text) _ c.in-Some.ensures.cases.0 c.saturating_sub-number.ensures
    c.in_ok-print_row.ensures c.loop-row.invariant

pub returns : goal.returns
returns c =
    rows_end c.args.layout.now (length c.args.rows.now) c.loop-row.left.now (string_bytes c.loop-row.text) _ c.in_default.ensures.cases
    c.loop-row.invariant
