use Rattle.std.proofs.Common.{◌≡◌, ◌++◌, Some}
use Rattle.std.specs.Prelude.{map}
use Rattle.std.specs.Vec.Iter.{into_iter_items}
use Rattle.shared_table.proofs.opening.at_home.Given as goal

abbrev pub invariant-loop-base : goal.invariant-loop-base
invariant-loop-base g l = (l.yielded ++ into_iter_items l.base-iterator ≡ l.fn.bases.items) × (l.homes.items ≡ map Some l.yielded)
