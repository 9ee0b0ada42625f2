use Rattle.std.proofs.Common.{sym, arith}
use Rattle.std.proofs.lemmas.List.{length-take-le, take_all}
use Rattle.session_text.proofs.rows.first_of.Goals as goal

pub slice_bounds-result-end : goal.slice_bounds-result-end
slice_bounds-result-end c = sym (length-take-le 1000 c.args.events.now (omega (arith, c.if-events-gt-ROW_LIMIT.true)))

pub returns-else-events-gt-ROW_LIMIT : goal.returns-else-events-gt-ROW_LIMIT
returns-else-events-gt-ROW_LIMIT c = sym (take_all 1000 c.args.events.now (omega (arith, c.if-events-gt-ROW_LIMIT.false)))
