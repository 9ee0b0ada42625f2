use Rattle.std.proofs.Common.{subst, sym}
use Rattle.seq_model.specs.Counts.{HasNoZero}
use Rattle.seq_model.proofs.CountsLemmas.{no_zero_empty}
use Rattle.base_bag.proofs.elements.Elements.new.Goals as goal

pub invariant_of-result : goal.invariant_of-result
invariant_of-result c = subst HasNoZero (sym c.new.ensures) no_zero_empty
