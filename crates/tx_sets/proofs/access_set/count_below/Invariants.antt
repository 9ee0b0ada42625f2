use Rattle.std.specs.Prelude.{◌≡◌, count_by, nat_lt, take}
use Rattle.tx_sets.proofs.access_set.count_below.Given as goal

abbrev pub invariant-loop-entry : goal.invariant-loop-entry
invariant-loop-entry l = l.count ≡ count_by (λ entry. nat_lt entry.0 l.location) (take l.entry-index l.entries)
