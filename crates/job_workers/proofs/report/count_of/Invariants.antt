use Rattle.std.proofs.Common.{◌≡◌, take}
use Rattle.job_workers.specs.Reports.{jobs_in}
use Rattle.job_workers.proofs.report.count_of.Given as goal

abbrev pub invariant-lists : goal.invariant-lists
invariant-lists g l = l.count ≡ jobs_in (take l.list-index l.lists)
