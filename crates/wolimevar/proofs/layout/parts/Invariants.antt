use Rattle.std.proofs.Common.{◌≡◌, map}
use Rattle.wolimevar.proofs.layout.parts.Given as goal

-- what the collections so far hold
abbrev pub invariant-collections : goal.invariant-collections
invariant-collections g l = l.held.items ≡ map (λ c. c.held) l.yielded
