-- Outcomes on a base of any kind: that those which don't conflict commute is the law of the kind that the base has.
use Rattle.std.proofs.Common.{ℕ, ap}
use Rattle.conflict.specs.Commute.{commute}
use Rattle.base_map.specs.Conflicts as map
use Rattle.base_map.specs.FrameLemmas as map_laws
use Rattle.base_bag.specs.Conflicts as bag
use Rattle.base_bag.specs.FrameLemmas as bag_laws
use Rattle.base_pq.specs.Conflicts as pq
use Rattle.base_pq.specs.FrameLemmas as pq_laws
use Rattle.base_queue.specs.Conflicts as queue
use Rattle.base_queue.specs.FrameLemmas as queue_laws
use Rattle.replay_log.specs.Base.{Shown, OfMap, OfBag, OfPq, OfQueue, Commute}

pub base_commutes : {V : Type 0} → (n : ℕ) (s : Shown V) → Commute n s
base_commutes {V} n (OfMap s) p q a b pos is_a is_b apart =
    let both = commute (map.rules V) map_laws.laws n p q a b s pos is_a is_b apart in (both.0, (both.1.0, ap OfMap both.1.1))
base_commutes {V} n (OfBag s) p q a b pos is_a is_b apart =
    let both = commute (bag.rules V) bag_laws.laws n p q a b s pos is_a is_b apart in (both.0, (both.1.0, ap OfBag both.1.1))
base_commutes {V} n (OfPq s) p q a b pos is_a is_b apart =
    let both = commute (pq.rules V) pq_laws.laws n p q a b s pos is_a is_b apart in (both.0, (both.1.0, ap OfPq both.1.1))
base_commutes {V} n (OfQueue s) p q a b pos is_a is_b apart =
    let both = commute (queue.rules V) queue_laws.laws n p q a b s pos is_a is_b apart in (both.0, (both.1.0, ap OfQueue both.1.1))
