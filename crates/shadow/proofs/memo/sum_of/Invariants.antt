use Rattle.std.proofs.Common.{◌≡◌, take}
use Rattle.std.specs.List.{sum}
use Rattle.shadow.proofs.memo.sum_of.Given as goal

-- the sum of the counts before this one
abbrev pub invariant-loop-count : goal.invariant-loop-count
invariant-loop-count l = l.total ≡ sum (take l.count-index l.count-items)
