use Rattle.std.proofs.Common.{rules, [], ◌∷◌, ◌++◌, ◌∙◌, ap, inl, inr, refl, subst, sym}
use Rattle.shared_table.specs.Seated.{actor, view}
use Rattle.job_workers.proofs.HalfLemmas.{back_gains, back_ready, back_works, both_joined, first_done, second_done}
use Rattle.job_workers.proofs.ReportLemmas.{same_works}
use Rattle.tx_engine.proofs.TaskLemmas.{both_gain}
use Rattle.job_workers.specs.Trees.{IsFresh, works}
use Rattle.job_workers.proofs.halves.+trees.Goals as goal

pub both-scope-spawn_with-returns-then-load : goal.both-scope-spawn_with-returns-then-load
both-scope-spawn_with-returns-then-load g t c = inr c.give_back.ensures

pub both-scope-spawn_with-returns-else-load : goal.both-scope-spawn_with-returns-else-load
both-scope-spawn_with-returns-else-load g t c = inl c.run_tree.ensures

pub run_tree-work-requires-clause-ready : goal.run_tree-work-requires-clause-ready
run_tree-work-requires-clause-ready g t c = c.requires.ready

pub run_tree-split_off-other-requires-clause-ready : goal.run_tree-split_off-other-requires-clause-ready
run_tree-split_off-other-requires-clause-ready g t c = c.requires.ready

pub run_tree-both-first-requires-clause-first : goal.run_tree-both-first-requires-clause-first
run_tree-both-first-requires-clause-first g t c κs within = record {
  ready = c.split_off-other.ensures.ready.0;
  shares = search rules;
  some = search rules;
  few = search rules;
  fresh = search rules;
}

pub run_tree-both-first-requires-clause-second : goal.run_tree-both-first-requires-clause-second
run_tree-both-first-requires-clause-second g t c κs within = record {
  ready = c.split_off-other.ensures.ready.1;
  shares = search rules;
  some = search rules;
  few = search rules;
  fresh = search rules;
}

pub run_tree-join_again-requires-clause-other : goal.run_tree-join_again-requires-clause-other
run_tree-join_again-requires-clause-other g t c =
    back_ready g.J.Job.asks c.args.table.now c.args.tries c.split_off-other.result c.both-first.result.1.0 c.in-Both.right.value
    c.both-first.result.1.1.value c.both-first.ensures.second

pub run_tree-returns-in-Taken : goal.run_tree-returns-in-Taken
run_tree-returns-in-Taken g t c =
    let tree_is = sym (c.replace.ensures.value ∙ c.deref_mut.ensures.value) ∙ c.in-Taken.is in
    absurd (subst IsFresh tree_is c.requires.fresh)

pub run_tree-returns-in-Leaf : goal.run_tree-returns-in-Leaf
run_tree-returns-in-Leaf g t c =
    let tree_is = sym (c.replace.ensures.value ∙ c.deref_mut.ensures.value) ∙ c.in-Leaf.is in
    record {
      ready = c.work.ensures.ready;
      gains = c.work.ensures.gains;
      works_are = same_works c.in-Leaf.task c.work.new.self c.args.tree.value tree_is c.work.ensures.same;
      others = [];
      joined = c.work.ensures.joined;
      done = (c.work.ensures.done, refl);
    }

pub run_tree-returns-in-Both : goal.run_tree-returns-in-Both
run_tree-returns-in-Both g t c =
    let asks = g.J.Job.asks in
    let table = c.args.table.now in
    let tries = c.args.tries in
    let tree_is = sym (c.replace.ensures.value ∙ c.deref_mut.ensures.value) ∙ c.in-Both.is in
    let s = c.args.seat in
    let m = c.split_off-other.new.seat in
    let o = c.split_off-other.result in
    let x = c.both-first.result.0.0 in
    let y = c.both-first.result.1.0 in
    let u = c.join_again.new.seat in
    let n = c.count-shares.result in
    let of_first = c.both-first.result.0.1.value in
    let of_second = c.both-first.result.1.1.value in
    let first = c.both-first.ensures.first in
    let second = c.both-first.ensures.second in
    let same = c.split_off-other.ensures.same in
    let left = c.split_off-other.ensures.left.0 in
    let right = c.split_off-other.ensures.right in
    let joins = c.join_again.ensures.same in
    let both = c.join_again.ensures.both in
    record {
      ready = c.join_again.ensures.ready;
      gains = both_gain n s m o x y u _ _ (search rules) (λ i. (left i).shares) (λ i. (left i).receipts) (λ i. (right i).shares)
          (λ i. (right i).receipts) first.gains (back_gains asks table tries o y c.in-Both.right.value of_second second)
          (λ i. (both i).shares) (λ i. (both i).receipts) c.split_off-other.ensures.left.1 c.join_again.ensures.last;
      works_are = (λ i. first.works_are i ++ back_works asks table tries o y c.in-Both.right.value of_second second i)
          ∙ sym (ap works tree_is);
      others = first.others ++ (actor y.seat, (view y.seat).turns) ∷ (view y.seat).joined;
      joined = both_joined s m o x y u n same left right joins both first.others first.joined;
      done = (
        first.others,
        (view y.seat).joined,
        actor y.seat,
        (view y.seat).turns,
        first_done s m o x y u n same left right joins both asks table tries of_first first.others first.done,
        second_done s m o x y u n same left right joins both asks table tries c.in-Both.right.value of_second second,
        refl,
      );
    }

-- A closure is called where what it asks of its captures holds: it stands before the bounds on types there, and after them here.
pub fn::both::fn::scope::spawn_with+FnOnce::call_once-spawn_with-requires :
    goal.fn::both::fn::scope::spawn_with+FnOnce::call_once-spawn_with-requires
fn::both::fn::scope::spawn_with+FnOnce::call_once-spawn_with-requires g t c κs within =
    let own = c.requires.1.1.1.1 in
    let b = own.1.1.1.1 in (
      search rules,
      (
        within.0,
        (
          within.1.0,
          (
            within.1.1.0,
            (
              within.1.1.1,
              (
                b.0,
                (
                  b.1,
                  (
                    b.2,
                    (
                      b.3,
                      (
                        b.4,
                        (
                          b.5,
                          (own.0, (own.1.0, (own.1.1.0, own.1.1.1.0))),
                        ),
                      ),
                    ),
                  ),
                ),
              ),
            ),
          ),
        ),
      ),
    )

pub fn::both::scope+FnOnce::call_once-scope-requires : goal.fn::both::scope+FnOnce::call_once-scope-requires
fn::both::scope+FnOnce::call_once-scope-requires g t c κs within =
    let own = c.requires.1.1.1.1 in
    let b = own.1.1.1.1.1 in (
      search rules,
      (
        within.0,
        (
          within.1.0,
          (
            within.1.1.0,
            (
              within.1.1.1,
              (
                b.0,
                (
                  b.1,
                  (
                    b.2,
                    (
                      b.3,
                      (
                        b.4,
                        (
                          b.5,
                          (own.0, (own.1.0, (own.1.1.0, (own.1.1.1.0, own.1.1.1.1.0)))),
                        ),
                      ),
                    ),
                  ),
                ),
              ),
            ),
          ),
        ),
      ),
    )

-- What the scope's closure asks holds of what it captures: the lists of lifetimes are the function's own.
pub both-scoped-requires : goal.both-scoped-requires
both-scoped-requires g t c = record {
  at = λ a. (
    search rules,
    (
      λ κ m. m,
      (
        λ κ m. m,
        (
          λ κ m. m,
          (
            λ κ m. m,
            (
              search rules,
              (c.requires.some, (c.requires.first, (c.requires.second, (c.requires.others, search rules)))),
            ),
          ),
        ),
      ),
    ),
  );
}
