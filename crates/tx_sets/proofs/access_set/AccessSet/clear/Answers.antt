use Rattle.std.proofs.Common.{rules}
use Rattle.tx_sets.proofs.LinkLemmas.{no_links}
use Rattle.tx_sets.proofs.access_set.AccessSet.clear.Goals as goal

pub invariant_of-self : goal.invariant_of-self
invariant_of-self g c =
    (no_links _ _ _ c.clear-2.ensures.items c.clear.ensures.items, search rules, search rules)
