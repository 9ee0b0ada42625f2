use Rattle.std.proofs.Common.{◌≡◌}
use Rattle.conflict.proofs.MultisetLemmas.{gives}
use Rattle.base_pq.proofs.elements.Elements.of_counts.Given as goal

-- the entries that are left make the whole
abbrev pub invariant-loop-element : goal.invariant-loop-element
invariant-loop-element l = gives l.elements.elements l.element-iterator ≡ l.fn.counts
