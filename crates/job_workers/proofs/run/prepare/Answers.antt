use Rattle.std.proofs.Common.{◌≡◌, ◌∙◌, arith, length}
use Rattle.job_workers.proofs.ReportLemmas.{taken_all}
use Rattle.job_workers.specs.Trees.{works}
use Rattle.job_workers.proofs.run.prepare.Goals as goal

pub returns-clause-tree : goal.returns-clause-tree
returns-clause-tree g c =
    let count = c.len-count.result in
    let all : count ≡ length c.args.lists.items = omega arith in
    record {
      workers_are = taken_all c.args.lists.items c.tree_of.new.lists.items count 1 (works c.in_ok-tree.tree.value) all
          c.in_ok-tree.ensures.lists;
      many = c.in_ok-tree.ensures.leaves ∙ all;
      fresh = c.in_ok-tree.ensures.fresh;
    }
