use Rattle.std.proofs.Common.{rules, ◌≡◌, ◌+◌, ◌∷◌, ◌++◌, ◌∙◌, Some, ap, arith, length, map, refl, sym, subst}
use Rattle.std.specs.Prelude.{All}
use Rattle.std.specs.Vec.Iter.{into_iter_items, into_iter_len}
use Rattle.std.proofs.lemmas.List.{append-nil, nil_from_length}
use Rattle.std.proofs.lemmas.List.Elements.{All-head, All-tail}
use Rattle.shared_table.specs.Seated.{view}
use Rattle.wolimevar.specs.Sessions.{IsFinished, joined}
use Rattle.tx_client.specs.Frames.{receipts_at}
use Rattle.wolimevar.proofs.SessionLemmas.{given_first, joined_first}
use Rattle.wolimevar.proofs.sessions.join_all.Goals as goal

pub tasks-init : goal.tasks-init
tasks-init g c =
    let all : into_iter_items c.into_iter-task-iterator.result ≡ c.args.tasks.items = search rules in
    let room = c.requires.room in
    let n = ap (λ ps. length ps) all in
    record {
      ready = c.requires.ready;
      finished = subst (All (IsFinished c.args.table.now)) (sym all) c.requires.finished;
      shares = ap (λ ps. (view c.args.seat.now.seat).shares + length ps) all;
      receipts = ap (λ ps. (view c.args.seat.now.seat).receipts ++ joined (map (λ p. receipts_at p.seat) ps)) all;
      asks = refl;
      last = omega arith;
      given = ap (λ ps. map Some c.args.outs.now.items ++ map (λ p. p.out) ps) all;
      room = omega (arith, room, n);
    }

pub join_one-out-requires-clause-finished : goal.join_one-out-requires-clause-finished
join_one-out-requires-clause-finished g c =
    let next : into_iter_items c.tasks.task-iterator ≡ c.in-Some.task ∷ into_iter_items c.next.new.self = search rules in
    All-head (IsFinished c.args.table.now) _ _ (subst (All (IsFinished c.args.table.now)) next c.tasks.invariant.finished)

pub tasks-preserved : goal.tasks-preserved
tasks-preserved g c =
    let next : into_iter_items c.tasks.task-iterator ≡ c.in-Some.task ∷ into_iter_items c.next.new.self = search rules in
    let h = c.tasks.invariant in
    let shares = h.shares in
    let room = h.room in
    let one = c.join_one-out.ensures.shares in
    let before = h.last in
    let after = c.join_one-out.ensures.last in
    let n = ap (λ ps. length ps) next in
    let len = c.push_reserved.ensures.len in
    let capacity = c.push_reserved.ensures.capacity in
    record {
      ready = c.join_one-out.ensures.ready;
      finished = All-tail (IsFinished c.args.table.now) _ _ (subst (All (IsFinished c.args.table.now)) next h.finished);
      shares = omega (arith, shares, one, n);
      receipts = joined_first c.args.table.now (view c.tasks.seat.seat).receipts (view c.join_one-out.new.seat.seat).receipts
          (view c.args.seat.now.seat).receipts c.in-Some.task (into_iter_items c.next.new.self) (into_iter_items c.tasks.task-iterator)
          c.args.tasks.items c.join_one-out.ensures.receipts next h.receipts;
      asks = c.join_one-out.ensures.asks ∙ h.asks;
      last = omega (arith, before, after);
      given = given_first c.args.table.now c.tasks.outs.items c.push_reserved.new.self.items c.join_one-out.result c.in-Some.task
          (into_iter_items c.next.new.self) _ c.push_reserved.ensures.items c.join_one-out.ensures.given
          (ap (λ ps. map Some c.tasks.outs.items ++ map (λ p. p.out) ps) (sym next) ∙ h.given);
      room = omega (arith, room, n, len, capacity);
    }

pub returns-clause-outs : goal.returns-clause-outs
returns-clause-outs g c =
    let len : length (into_iter_items c.tasks.task-iterator) ≡ into_iter_len c.tasks.task-iterator = search rules in
    let none = nil_from_length (into_iter_items c.tasks.task-iterator) (len ∙ c.in-None.ensures.steps.0) in
    sym (append-nil (map Some c.tasks.outs.items))
    ∙ ap (λ ps. map Some c.tasks.outs.items ++ map (λ p. p.out) ps) (sym none)
    ∙ c.tasks.invariant.given
