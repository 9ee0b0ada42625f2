use Rattle.std.proofs.Common.{◌≡◌}
use Rattle.shared_table.specs.Ends.{row_of}
use Rattle.shared_table.specs.Layout.{values_in}
use Rattle.shared_table.proofs.closed.Closed.values.Given as goal

abbrev pub invariant-loop-word : goal.invariant-loop-word
invariant-loop-word g l = l.words.items ≡ values_in l.self.locations l.word (row_of l.self)
