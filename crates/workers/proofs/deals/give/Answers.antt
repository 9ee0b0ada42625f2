use Rattle.std.proofs.Common.{◌∙◌, ◌++◌, ◌∷◌, [], ap, set, sym}
use Rattle.std.proofs.lemmas.List.{get_or-map, map-set}
use Rattle.workers.specs.Deals.{in_lists}
use Rattle.workers.proofs.deals.give.Goals as goal

pub returns-clause-given : goal.returns-clause-given
returns-clause-given g c =
    let lists = c.args.lists.now.items in
    let own = get_or-map (λ list. list.items) lists c.args.turn c.index_mut.result.now [] c.requires
    ∙ ap (λ list. list.items) (sym c.index_mut.ensures.value) in
    map-set (λ list. list.items) lists c.args.turn c.push.new.self
    ∙ ap (set (in_lists lists) c.args.turn) (c.in_ok-push.ensures.items ∙ ap (λ xs. xs ++ c.args.item ∷ []) (sym own))
