use Rattle.std.proofs.Common.{◌≡◌, take}
use Rattle.seq_model.specs.Ranks.{ranks_from}
use Rattle.seq_model.proofs.auditing.turns_of.Given as goal

abbrev pub invariant-loop-place : goal.invariant-loop-place
invariant-loop-place g l = l.turns.items ≡ ranks_from 0 (take l.place l.records)
