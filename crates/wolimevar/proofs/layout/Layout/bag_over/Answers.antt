use Rattle.std.proofs.Common.{map, subst, sym}
use Rattle.seq_model.specs.Counts.{HasNoZero}
use Rattle.tx_handles.specs.Gates.{AreParts}
use Rattle.tx_handles.proofs.LayoutLemmas.{laid_bag, parts_no_zero}
use Rattle.wolimevar.proofs.layout.Layout.bag_over.Goals as goal

pub bags_of-requires : goal.bags_of-requires
bags_of-requires g c =
    parts_no_zero c.in_ok-gates.gates c.into_entries.result c.in_ok-parts.parts.items c.in_ok-parts.ensures
    (subst HasNoZero (sym c.into_entries.ensures.entries) c.into_entries.ensures.no_zero)

pub returns-clause-holds : goal.returns-clause-holds
returns-clause-holds g c =
    laid_bag (λ h. h.held) c.in_ok-gates.gates c.args.self.now.collections.items c.in_ok-all.all.items
    (map (λ h. h.held) c.add_all.new.self.collections.items) c.in_ok-gates.ensures c.in_ok-add_all.ensures.holds c.args.counts
    c.in_ok-parts.parts.items
    (subst (λ u. AreParts c.in_ok-gates.gates u c.in_ok-parts.parts.items) c.into_entries.ensures.entries c.in_ok-parts.ensures)
    c.in_ok-all.ensures
