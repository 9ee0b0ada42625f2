use Rattle.std.proofs.Common.{[]}
use Rattle.tx_engine.specs.Ready.{IsReady}
use Rattle.tx_engine.specs.Tasks.{Gains, GetsJoined, HasRoom, IsSameTask}
use Rattle.tx_engine.proofs.TaskLemmas.{TriedTo}
use Rattle.tx_engine.proofs.tasks.Task.work.Given as goal

-- the jobs so far were tried, and the seat has gained their receipts
abbrev pub invariant-jobs : goal.invariant-jobs
invariant-jobs g l = record {
  ready : IsReady l.table l.seat;
  same : IsSameTask l.initial.self l.self;
  room : HasRoom l.i l.self;
  tried : TriedTo g.J.Job.asks l.table l.tries l.i l.self l.initial.seat l.seat;
  gains : Gains l.initial.seat l.seat l.self.receipts.items;
  joined : GetsJoined l.initial.seat l.seat [];
}
