use Rattle.std.proofs.Common.{subst, sym}
use Rattle.seq_model.specs.Counts.{HasNoZero}
use Rattle.seq_model.proofs.CountsLemmas.{no_zero_remove, no_zero_insert}
use Rattle.base_bag.proofs.elements.Elements.set_copies.Goals as goal

pub invariant_of-self : goal.invariant_of-self
invariant_of-self c = subst HasNoZero (sym c.remove.ensures.contents)
    (no_zero_remove c.self.inside.table.contents c.args.element c.self.invariant)

pub invariant_of-self-else-count-eq0 : goal.invariant_of-self-else-count-eq0
invariant_of-self-else-count-eq0 c =
    subst HasNoZero (sym c.insert_reserved.ensures.contents) (no_zero_insert c.self.inside.table.contents c.args.element c.args.count
    c.self.invariant c.if-count-eq0.false)
