use Rattle.session_text.proofs.LaneLemmas.{drawn}
use Rattle.session_text.proofs.lanes.print_drawn.Goals as goal

pub returns : goal.returns
returns c = record {
  layout = c.in_ok-layout.layout;
  printed = drawn _ _ _ _ _ _ _ c.in_ok-print_head.ensures c.in_ok-print_rows.ensures c.in_ok-print_more.ensures;
}
