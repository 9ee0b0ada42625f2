use Rattle.std.proofs.Common.{take}
use Rattle.job_workers.specs.Reports.{jobs_of}
use Rattle.workers.specs.Serving.{AreAllowed}
use Rattle.workers.proofs.served.all_allowed.Given as goal

abbrev pub invariant-loop-list : goal.invariant-loop-list
invariant-loop-list l = AreAllowed (jobs_of (take l.list-index l.lists))
