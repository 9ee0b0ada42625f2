use Rattle.std.proofs.Common.{rules}
use Rattle.tx_sets.proofs.LinkLemmas.{no_links}
use Rattle.tx_sets.proofs.access_set.AccessSet.new.Goals as goal

pub invariant_of-result : goal.invariant_of-result
invariant_of-result g c =
    (no_links _ _ _ c.new-2.ensures.items c.new.ensures.items, search rules, search rules)
