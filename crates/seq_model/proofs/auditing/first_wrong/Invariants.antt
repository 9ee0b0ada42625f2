use Rattle.std.proofs.Common.{◌≡◌, take}
use Rattle.seq_model.specs.Runs.{IsLegal, after_calls}
use Rattle.seq_model.proofs.auditing.first_wrong.Given as goal

abbrev pub invariant-loop-place : goal.invariant-loop-place
invariant-loop-place g l = IsLegal (take l.place l.calls) l.initial.state × (l.state ≡ after_calls (take l.place l.calls) l.initial.state)
