use Rattle.std.proofs.Common.{length}
use Rattle.vacation_core.specs.Plays.{AreAllowed, Play}
use Rattle.vacation_core.specs.Running.{IsPlay}
use Rattle.vacation_core.proofs.EventListLemmas.{Plays}
use Rattle.vacation_core.proofs.world.VacWorld.play_all.Given as goal

abbrev pub decreases-loop-event : goal.decreases-loop-event
decreases-loop-event l = length l.left

abbrev pub invariant-loop-event : goal.invariant-loop-event
invariant-loop-event l = record {
  plays : (p : Play) → IsPlay l.fn.self p → Plays p l.fn.events l.self l.left;
  allowed : AreAllowed l.left;
}
