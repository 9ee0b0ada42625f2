use Rattle.std.proofs.Common.{◌≡◌, take}
use Rattle.seq_model.specs.Runs.{IsRun, after_run}
use Rattle.seq_model.specs.Audit.{run_order}
use Rattle.seq_model.proofs.auditing.replay.Given as goal

abbrev pub invariant-loop-place : goal.invariant-loop-place
invariant-loop-place g l = IsRun (take l.place-index (run_order l.records)) l.initial.state
    × (l.state ≡ after_run (take l.place-index (run_order l.records)) l.initial.state)
