use Rattle.actor_parts.proofs.OpeningLemmas.{IsCounted}
use Rattle.actor_parts.proofs.opening.locations.Given as goal

abbrev pub invariant-loop-i : goal.invariant-loop-i
invariant-loop-i g l = IsCounted l.fn.words l.stripes l.held l.i l.end
