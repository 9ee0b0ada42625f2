use Rattle.std.proofs.Common.{◌∙◌, ◌∷◌, [], ap, set, sym}
use Rattle.std.proofs.lemmas.List.{get_or-map, map-set}
use Rattle.workers.specs.Deals.{in_queues}
use Rattle.workers.proofs.DealLemmas.{queue_now}
use Rattle.workers.proofs.deals.take.Goals as goal

pub returns-clause-taken : goal.returns-clause-taken
returns-clause-taken g c =
    get_or-map (λ queue. queue.items) c.args.queues.now.items c.args.turn c.index_mut.result.now [] c.requires.there
    ∙ ap (λ queue. queue.items) (sym c.index_mut.ensures.value) ∙ c.in-Some.ensures.items
    ∙ ap (λ xs. c.in-Some.item ∷ xs) (sym (queue_now c.args.queues.now.items c.args.turn c.pop_front.new.self c.requires.there))

pub returns-clause-kept : goal.returns-clause-kept
returns-clause-kept g c =
    map-set (λ queue. queue.items) c.args.queues.now.items c.args.turn c.pop_front.new.self
    ∙ ap (set (in_queues c.args.queues.now.items) c.args.turn)
    (sym (queue_now c.args.queues.now.items c.args.turn c.pop_front.new.self c.requires.there))
