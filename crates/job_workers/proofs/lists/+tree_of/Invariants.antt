use Rattle.job_workers.proofs.lists.+tree_of.Given as goal

abbrev pub decreases-tree_of : goal.decreases-tree_of
decreases-tree_of g l = l.count
