use Rattle.base_map.specs.FrameLemmas as map_laws
use Rattle.base_bag.specs.FrameLemmas as bag_laws
use Rattle.base_pq.specs.FrameLemmas as pq_laws
use Rattle.base_queue.specs.FrameLemmas as queue_laws
use Rattle.replay_log.proofs.BaseLemmas.{base_commutes}
use Rattle.replay_log.proofs.PartLemmas.{changes_within, disjoint_commute}
use Rattle.replay_log.proofs.laws.frame_laws.Goals as goal

pub returns-clause-map : goal.returns-clause-map
returns-clause-map g c = map_laws.laws

pub returns-clause-bag : goal.returns-clause-bag
returns-clause-bag g c = bag_laws.laws

pub returns-clause-pq : goal.returns-clause-pq
returns-clause-pq g c = pq_laws.laws

pub returns-clause-queue : goal.returns-clause-queue
returns-clause-queue g c = queue_laws.laws

pub returns-clause-commute : goal.returns-clause-commute
returns-clause-commute g c stripes s = base_commutes stripes s

pub returns-clause-changes : goal.returns-clause-changes
returns-clause-changes g c = disjoint_commute

pub returns-clause-within : goal.returns-clause-within
returns-clause-within g c = changes_within
