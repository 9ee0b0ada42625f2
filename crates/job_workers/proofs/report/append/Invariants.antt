use Rattle.std.proofs.Common.{◌≡◌, ◌+◌, ◌++◌, ◌≤◌, length}
use Rattle.std.specs.Vec.{vec_capacity, vec_len}
use Rattle.std.specs.Vec.Iter.{into_iter_items}
use Rattle.job_workers.proofs.report.append.Given as goal

-- what was put and what is left
abbrev pub invariant-loop-job : goal.invariant-loop-job
invariant-loop-job l = record {
  items : l.missed.items ++ into_iter_items l.job-iterator ≡ l.fn.missed.items ++ l.fn.more.items;
  room : vec_len l.missed + length (into_iter_items l.job-iterator) ≤ vec_capacity l.missed;
  capacity : vec_capacity l.missed ≡ vec_capacity l.fn.missed;
}
