use Rattle.std.proofs.Common.{◌-◌, ◌≡◌, ◌<◌}
use Rattle.step_core.specs.declared.actor.Place.TheVariants.{Check}
use Rattle.shared_table.specs.Seated.{opening_of}
use Rattle.tx_turns.specs.Ties.{Ties}
use Rattle.tx_turns.specs.Own.{HasOwn}
use Rattle.tx_turns.proofs.StepsLemmas.{HasCome}
use Rattle.tx_turns.specs.Straight.{at_place}
use Rattle.tx_turns.proofs.checks.check_each.Given as goal

abbrev pub invariant-loop-i : goal.invariant-loop-i
invariant-loop-i g l =
    (l.actor.stage ≡ l.initial.actor.stage) × (l.actor.words.reads ≡ l.initial.actor.words.reads)
    × Ties l.table l.seat (at_place l.actor (Check l.i)) × HasOwn l.table l.seat (at_place l.actor (Check l.i)) l.bases
    × HasCome (opening_of l.table) l.initial.seat l.seat × (l.i < l.end)

abbrev pub decreases-loop-i : goal.decreases-loop-i
decreases-loop-i g l = l.end - l.i
