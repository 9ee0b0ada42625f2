use Rattle.std.proofs.Common.{◌≡◌}
use Rattle.shared_table.specs.Ends.{row_of}
use Rattle.shared_table.specs.Layout.{values_in}
use Rattle.wolimevar.proofs.unread.read_words.Given as goal

abbrev pub invariant-loop-word : goal.invariant-loop-word
invariant-loop-word g l = l.values.items ≡ values_in l.closed.locations l.word (row_of l.closed)
