use Rattle.std.proofs.Common.{◌≡◌, take}
use Rattle.replay_log.specs.WorldTraces.{half_in}
use Rattle.step_world.specs.Traces.{seat_at}
use Rattle.step_world.proofs.trace.half_done.Given as goal

abbrev pub invariant-loop-entry : goal.invariant-loop-entry
invariant-loop-entry g l = l.found.items ≡ half_in (seat_at l.actors) (take l.entry-index l.records)
