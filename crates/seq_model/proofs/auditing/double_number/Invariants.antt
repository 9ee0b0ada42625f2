use Rattle.std.proofs.Common.{◌≡◌, None, drop}
use Rattle.seq_model.proofs.AuditLemmas.{double_behind}
use Rattle.seq_model.proofs.auditing.double_number.Given as goal

abbrev pub invariant-loop-number : goal.invariant-loop-number
invariant-loop-number l = double_behind l.last (drop l.number-index l.turns) ≡ double_behind None l.turns
