use Rattle.std.proofs.Common.{◌≡◌, take, map}
use Rattle.session_text.proofs.run.shape_of.Given as goal

abbrev pub invariant-loop-collection : goal.invariant-loop-collection
invariant-loop-collection l = l.stripes.items ≡ map (λ c. c.stripes) (take l.collection-index l.collection-items)
