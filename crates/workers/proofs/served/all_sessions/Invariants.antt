use Rattle.std.proofs.Common.{◌≡◌, take}
use Rattle.job_workers.specs.Reports.{jobs_of}
use Rattle.workers.proofs.served.all_sessions.Given as goal

abbrev pub invariant-loop-list : goal.invariant-loop-list
invariant-loop-list l = jobs_of l.sessions.items ≡ jobs_of (take l.list-index l.lists)
