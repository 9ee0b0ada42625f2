use Rattle.std.proofs.Common.{◌≡◌, ◌++◌}
use Rattle.std.specs.Prelude.{flat_map}
use Rattle.std.specs.Vec.Iter.{into_iter_items}
use Rattle.command_line.proofs.inspection.receipts_of.Given as goal

abbrev pub invariant-lists : goal.invariant-lists
invariant-lists l = record {
  all : l.yielded ++ into_iter_items l.list-iterator ≡ l.fn.lists;
  joined : l.all.items ≡ flat_map (λ receipts. receipts) l.yielded;
}
