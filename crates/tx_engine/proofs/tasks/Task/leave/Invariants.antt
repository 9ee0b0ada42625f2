use Rattle.std.proofs.Common.{◌≡◌, []}
use Rattle.tx_engine.specs.Tasks.{HasRoom, IsSameTask}
use Rattle.tx_engine.proofs.TaskLemmas.{LeftTo}
use Rattle.tx_engine.proofs.tasks.Task.leave.Given as goal

abbrev pub invariant-jobs : goal.invariant-jobs
invariant-jobs g l = record {
  same : IsSameTask l.initial.self l.self;
  room : HasRoom l.i l.self;
  left : LeftTo l.i l.self;
  none : l.self.receipts.items ≡ [];
}
