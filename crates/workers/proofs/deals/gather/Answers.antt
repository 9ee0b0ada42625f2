use Rattle.std.proofs.Common.{◌≡◌, ◌∙◌, ◌∷◌, [], arith, ap, length, length-append, subst, sym}
use Rattle.std.proofs.lemmas.List.{length-map}
use Rattle.workers.specs.Deals.{IsNext, in_queues}
use Rattle.workers.proofs.DealLemmas.{AreTaken, all_taken, has_one, taken_more}
use Rattle.workers.proofs.deals.gather.Goals as goal

pub take-requires-clause-some : goal.take-requires-clause-some
take-requires-clause-some g c =
    has_one _ _ c.args.total _ _ _ c.requires.like c.items.invariant.taken (omega (arith, c.items.invariant.many, c.items-test.true))

pub items-preserved : goal.items-preserved
items-preserved g c =
    let all : length c.args.queues.items ≡ c.len-count.result = omega (arith, c.len-count.ensures, c.args.queues.ok.0) in
    record {
      many = omega (
        arith,
        ap (λ xs. length xs) c.in_ok-push.ensures.items,
        length-append c.items.items.items (c.take.result ∷ []),
        c.items.invariant.many,
      );
      taken = subst
          (λ xs. AreTaken (length c.args.queues.items) c.after_turn-turn.result xs (in_queues c.args.queues.items)
          (in_queues c.take.new.queues.items))
          (sym c.in_ok-push.ensures.items)
          (taken_more _ c.items.turn c.after_turn-turn.result c.items.items.items c.take.result _ _ _ c.items.invariant.taken
          (omega (arith, all, c.after_turn-turn.ensures.within))
          (subst (λ n. IsNext n c.items.turn c.after_turn-turn.result) (sym all) c.after_turn-turn.ensures.next)
          (length-map c.take.new.queues.items (λ queue. queue.items) ∙ c.take.ensures.many
          ∙ sym (length-map c.items.queues.items (λ queue. queue.items)))
          c.take.ensures.taken c.take.ensures.kept);
    }

pub returns-clause-gathered : goal.returns-clause-gathered
returns-clause-gathered g c =
    all_taken _ _ c.args.total _ _ _ c.requires.like c.items.invariant.taken
    (omega (arith, c.items.invariant.many, c.items-test.false, c.items.auto.counter-end))
