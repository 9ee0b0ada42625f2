use Rattle.std.proofs.Common.{◌≡◌, take}
use Rattle.seq_model.proofs.record.copy_of_calls.Given as goal

abbrev pub invariant-loop-call : goal.invariant-loop-call
invariant-loop-call g l = l.copy.items ≡ take l.call-index l.call-items
