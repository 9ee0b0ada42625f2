use Rattle.std.proofs.Common.{◌≡◌, ◌<◌}
use Rattle.std.specs.VecDeque.{deque_len}
use Rattle.step_core.specs.declared.actor.Place.TheVariants.{Release}
use Rattle.tx_actor.specs.declared.actor.Stage.TheVariants as stage
use Rattle.shared_table.specs.Seated.{opening_of}
use Rattle.tx_turns.specs.Ties.{Ties}
use Rattle.tx_turns.specs.Own.{HasOwn}
use Rattle.tx_turns.proofs.StepsLemmas.{HasCome}
use Rattle.tx_turns.proofs.releases.release_each.Given as goal

abbrev pub invariant-loop-seat : goal.invariant-loop-seat
invariant-loop-seat g l =
    Ties l.table l.seat l.actor × HasOwn l.table l.seat l.actor l.bases × (l.actor.stage ≡ stage.Releasing)
    × (l.actor.words.place ≡ Release) × (0 < deque_len l.actor.words.held) × HasCome (opening_of l.table) l.initial.seat l.seat

abbrev pub decreases-loop-seat : goal.decreases-loop-seat
decreases-loop-seat g l = deque_len l.actor.words.held
