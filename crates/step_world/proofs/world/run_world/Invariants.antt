use Rattle.std.proofs.Common.{take}
use Rattle.actor_parts.specs.Openings.{world_of}
use Rattle.step_world.proofs.ReachedLemmas.{HasFed}
use Rattle.step_world.proofs.world.run_world.Given as goal

abbrev pub invariant-loop-event : goal.invariant-loop-event
invariant-loop-event g l =
    HasFed l.fn.state (world_of l.shape.stripes l.shape.clock l.fn.state) (take l.event-index l.events) l.world.parts
