use Rattle.std.proofs.Common.{◌≡◌, ◌++◌}
use Rattle.std.specs.Prelude.{map}
use Rattle.std.specs.Vec.Iter.{into_iter_items}
use Rattle.vacation_core.proofs.order.receipts_of.Given as goal

abbrev pub invariant-loop-receipt : goal.invariant-loop-receipt
invariant-loop-receipt l = l.receipts.items ++ map (λ s. s.1) (into_iter_items l.receipt-iterator) ≡ map (λ s. s.1) l.fn.records
