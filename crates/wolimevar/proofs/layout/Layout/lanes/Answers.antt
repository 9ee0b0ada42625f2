use Rattle.std.proofs.Common.{map}
use Rattle.tx_handles.proofs.LayoutLemmas.{laid_lanes}
use Rattle.wolimevar.proofs.layout.Layout.lanes.Goals as goal

pub returns-clause-holds : goal.returns-clause-holds
returns-clause-holds g c =
    laid_lanes (λ h. h.held) c.in_ok-gates.gates c.args.self.now.collections.items c.in_ok-all.all.items
    (map (λ h. h.held) c.add_all.new.self.collections.items) c.in_ok-gates.ensures c.in_ok-add_all.ensures.holds c.args.items
    c.in_ok-all.ensures
