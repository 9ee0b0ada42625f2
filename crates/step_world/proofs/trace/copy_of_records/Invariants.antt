use Rattle.std.proofs.Common.{◌≡◌, take}
use Rattle.step_world.proofs.trace.copy_of_records.Given as goal

abbrev pub invariant-loop-actor : goal.invariant-loop-actor
invariant-loop-actor g l = l.copy.items ≡ take l.actor-index l.records
