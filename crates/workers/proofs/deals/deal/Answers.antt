use Rattle.std.proofs.Common.{◌∙◌, ◌++◌, ◌∷◌, [], ap, append_assoc, arith, length, length-append, subst, sym}
use Rattle.std.specs.Vec.Iter.{into_iter_items}
use Rattle.workers.specs.Deals.{AreDealt}
use Rattle.workers.proofs.DealLemmas.{IsTurn, dealt_all, dealt_like, dealt_more, waits_on}
use Rattle.workers.proofs.deals.deal.Goals as goal

pub items-preserved : goal.items-preserved
items-preserved g c =
    let xs = c.items.yielded in
    record {
      all = append_assoc xs (c.in-Some.item ∷ []) _ ∙ ap (λ ys. xs ++ ys) (sym c.in-Some.ensures.steps.0) ∙ c.items.invariant.all;
      turn = subst (IsTurn c.args.count c.after_turn-turn.result) (sym (length-append xs (c.in-Some.item ∷ [])))
          (waits_on _ _ _ (length xs) c.after_turn-turn.ensures.within c.after_turn-turn.ensures.next c.items.invariant.turn);
      dealt = subst (AreDealt c.args.count (xs ++ c.in-Some.item ∷ [])) (sym c.in_ok-give.ensures.given)
          (dealt_more _ _ xs c.in-Some.item _ c.items.invariant.turn c.items.invariant.dealt);
    }

pub returns-clause-dealt : goal.returns-clause-dealt
returns-clause-dealt g c =
    dealt_all _ c.items.yielded (into_iter_items c.items.item-iterator) c.args.items.items _ c.items.invariant.all
    (omega (arith, c.in-None.ensures.steps.0, c.items.item-iterator.rest.ok.0)) c.items.invariant.dealt

pub returns-clause-like : goal.returns-clause-like
returns-clause-like g c = dealt_like _ c.args.items.items _ (returns-clause-dealt g c)
