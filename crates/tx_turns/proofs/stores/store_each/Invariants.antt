use Rattle.std.proofs.Common.{◌-◌, ◌≡◌, ◌<◌}
use Rattle.step_core.specs.declared.actor.Place.TheVariants.{Store}
use Rattle.shared_table.specs.Seated.{opening_of}
use Rattle.tx_turns.specs.Ties.{Ties}
use Rattle.tx_turns.specs.Own.{HasOwn}
use Rattle.tx_turns.proofs.StepsLemmas.{HasCome}
use Rattle.tx_turns.specs.Straight.{at_place}
use Rattle.tx_turns.proofs.stores.store_each.Given as goal

abbrev pub invariant-loop-i : goal.invariant-loop-i
invariant-loop-i g l =
    (l.actor ≡ l.initial.actor) × Ties l.table l.seat (at_place l.initial.actor (Store l.i))
    × HasOwn l.table l.seat (at_place l.initial.actor (Store l.i)) l.bases × HasCome (opening_of l.table) l.initial.seat l.seat
    × (l.i < l.end)

abbrev pub decreases-loop-i : goal.decreases-loop-i
decreases-loop-i g l = l.end - l.i
