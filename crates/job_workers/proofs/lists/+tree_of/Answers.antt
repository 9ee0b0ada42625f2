use Rattle.std.proofs.Common.{◌≡◌, ℕ, ◌+◌, ◌-◌, ◌/◌, ◌++◌, arith, refl, subst}
use Rattle.job_workers.specs.Reports.{AreTaken}
use Rattle.job_workers.specs.Trees.{works}
use Rattle.job_workers.proofs.ReportLemmas.{taken_both}
use Rattle.job_workers.proofs.lists.+tree_of.Goals as goal

pub returns-clause-lists : goal.returns-clause-lists
returns-clause-lists g t c =
    let count = c.args.count in
    let first = c.args.first in
    let half = count / 2 in
    let before = c.args.lists.now.items in
    let after = c.tree_of-2.new.lists.items in
    let left = works c.in_ok-left.left.value in
    let right = works c.in_ok-right.right.value in
    let both = taken_both before c.tree_of.new.lists.items after half (count - half) first (first + (count - half)) left right
    c.in_ok-right.ensures.lists c.in_ok-left.ensures.lists refl in
    let all : (count - half) + half ≡ count = omega arith in
    rw c.in_ok-new-2.ensures.ok (subst (λ (k : ℕ). AreTaken before after k first (left ++ right)) all both)
