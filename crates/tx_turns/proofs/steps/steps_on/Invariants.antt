use Rattle.std.proofs.Common.{◌≡◌}
use Rattle.shared_table.specs.Seated.{opening_of}
use Rattle.tx_turns.specs.Driven.{left_in}
use Rattle.tx_turns.specs.Ties.{Ties}
use Rattle.tx_turns.specs.Own.{HasOwn}
use Rattle.tx_turns.proofs.StepsLemmas.{HasCome}
use Rattle.tx_turns.proofs.steps.steps_on.Given as goal

abbrev pub invariant-steps : goal.invariant-steps
invariant-steps g l =
    Ties l.table l.seat l.actor × HasOwn l.table l.seat l.actor l.bases
    × (l.actor.stage ≡ l.initial.actor.stage) × HasCome (opening_of l.table) l.initial.seat l.seat

abbrev pub decreases-steps : goal.decreases-steps
decreases-steps g l = left_in (opening_of l.table) l.seat
