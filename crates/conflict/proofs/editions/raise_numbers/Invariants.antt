use Rattle.std.proofs.Common.{◌≡◌, length, take}
use Rattle.conflict.specs.Editions.{raised}
use Rattle.conflict.proofs.editions.raise_numbers.Given as goal

abbrev pub invariant-loop-location : goal.invariant-loop-location
invariant-loop-location l =
    (l.numbers.items ≡ raised (take l.location-index l.location-items) l.initial.numbers.items)
    × (length l.numbers.items ≡ length l.initial.numbers.items)
