use Rattle.std.proofs.Common.{◌∙◌, arith, subst, sym, ◌≡◌}
use Rattle.std.proofs.lemmas.List.{length-map}
use Rattle.workers.proofs.DealLemmas.{AreEmpty, none_dealt}
use Rattle.workers.specs.Deals.{in_lists}
use Rattle.workers.proofs.deals.empty_lists.Goals as goal

pub returns-clause-many : goal.returns-clause-many
returns-clause-many g c =
    let ended : c.lists.counter ≡ c.args.count = omega (arith, c.lists-test.false, c.lists.auto.counter-end) in
    sym (length-map c.lists.lists.items (λ list. list.items)) ∙ c.lists.invariant.many ∙ ended

pub returns-clause-empty : goal.returns-clause-empty
returns-clause-empty g c =
    let ended : c.lists.counter ≡ c.args.count = omega (arith, c.lists-test.false, c.lists.auto.counter-end) in
    none_dealt _ _ (subst (λ n. AreEmpty n (in_lists c.lists.lists.items)) ended c.lists.invariant)
