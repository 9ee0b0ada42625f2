use Rattle.std.proofs.Common.{◌+◌, ◌*◌}
use Rattle.job_workers.specs.Trees.{leaves}
use Rattle.job_workers.proofs.halves.+trees.Given as goal

abbrev pub decreases-both : goal.decreases-both
decreases-both g l = 4 * (leaves l.left.value + leaves l.right.value) + 2

abbrev pub decreases-both-scope-spawn_with : goal.decreases-both-scope-spawn_with
decreases-both-scope-spawn_with g l = 4 * leaves l.right.value + 4

abbrev pub decreases-both-scope : goal.decreases-both-scope
decreases-both-scope g l = 4 * (leaves l.left.value + leaves l.right.value) + 1

abbrev pub decreases-run_tree : goal.decreases-run_tree
decreases-run_tree g l = 4 * leaves l.tree.value + 3
