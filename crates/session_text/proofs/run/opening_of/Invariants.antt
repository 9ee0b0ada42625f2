use Rattle.std.proofs.Common.{◌≡◌, take, map}
use Rattle.session_text.proofs.run.opening_of.Given as goal

abbrev pub invariant-loop-collection : goal.invariant-loop-collection
invariant-loop-collection l = l.held.items ≡ map (λ c. c.held) (take l.collection-index l.collection-items)
