use Rattle.std.proofs.Common.{◌≡◌}
use Rattle.std.specs.FinMap as map
use Rattle.seq_model.specs.Entries.{inserts}
use Rattle.seq_model.proofs.entries.Entries.of_list.Given as goal

abbrev pub invariant-loop-key : goal.invariant-loop-key
invariant-loop-key g l = l.made ≡ inserts map.empty l.yielded
