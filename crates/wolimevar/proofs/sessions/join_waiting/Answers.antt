use Rattle.std.proofs.Common.{rules, ◌≡◌, ◌+◌, ◌∷◌, ap, arith, length, sym, subst}
use Rattle.std.specs.Prelude.{All}
use Rattle.std.specs.Vec.Iter.{into_iter_items}
use Rattle.std.proofs.lemmas.List.Elements.{All-head, All-tail}
use Rattle.wolimevar.specs.Sessions.{IsWaiting}
use Rattle.wolimevar.proofs.SplitLemmas.{left_none, then_left}
use Rattle.wolimevar.proofs.sessions.join_waiting.Goals as goal

pub tasks-init : goal.tasks-init
tasks-init g c =
    let all : into_iter_items c.into_iter-task-iterator.result ≡ c.args.tasks.items = search rules in
    let n = ap (λ ps. length ps) all in
    record {
      ready = c.requires.ready;
      wait = subst (All (IsWaiting c.args.table.now)) (sym all) c.requires.wait;
      count = 0;
      all = omega (arith, n);
      joined = left_none c.args.seat.now.seat;
    }

pub join_unserved-requires-clause-waits : goal.join_unserved-requires-clause-waits
join_unserved-requires-clause-waits g c =
    let next : into_iter_items c.tasks.task-iterator ≡ c.in-Some.task ∷ into_iter_items c.next.new.self = search rules in
    All-head (IsWaiting c.args.table.now) _ _ (subst (All (IsWaiting c.args.table.now)) next c.tasks.invariant.wait)

pub tasks-preserved : goal.tasks-preserved
tasks-preserved g c =
    let next : into_iter_items c.tasks.task-iterator ≡ c.in-Some.task ∷ into_iter_items c.next.new.self = search rules in
    let h = c.tasks.invariant in
    let all = h.all in
    let n = ap (λ ps. length ps) next in
    record {
      ready = c.join_unserved.ensures.ready;
      wait = All-tail (IsWaiting c.args.table.now) _ _ (subst (All (IsWaiting c.args.table.now)) next h.wait);
      count = 1 + h.count;
      all = omega (arith, all, n);
      joined = then_left 1 h.count _ c.join_unserved.new.seat.seat c.tasks.seat.seat c.args.seat.now.seat c.join_unserved.ensures.joined
          h.joined
          (omega arith);
    }
