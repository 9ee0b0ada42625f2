use Rattle.actor_parts.proofs.EventsLemmas.{events_stay, others_stay}
use Rattle.actor_parts.proofs.OwnLemmas.{own_back, own_joined, own_same, reads_back, reads_stay}
use Rattle.actor_parts.proofs.staying.copies_stay.Goals as goal

pub returns-clause-others : goal.returns-clause-others
returns-clause-others g c = others_stay

pub returns-clause-events : goal.returns-clause-events
returns-clause-events g c = events_stay

pub returns-clause-stays : goal.returns-clause-stays
returns-clause-stays g c w v a k copy stays = (
  own_same w v a k copy stays.0.words stays.0.blocks stays.1,
  reads_stay w v a k copy stays.0,
)

pub returns-clause-joins : goal.returns-clause-joins
returns-clause-joins g c w v a k o copy joins = (
  own_joined w v a k o copy joins.0.words joins.0.blocks joins.1,
  reads_stay w v a k copy joins.0,
)

pub returns-clause-back : goal.returns-clause-back
returns-clause-back g c w a k asked copy = (own_back w a asked k copy, reads_back w a asked k copy)
