use Rattle.std.proofs.Common.{refl}
use Rattle.actor_parts.specs.Openings.{world_of}
use Rattle.step_world.proofs.ReachedLemmas.{opened_well}
use Rattle.step_world.proofs.PromiseLemmas.{few_locations, small_opened}
use Rattle.step_world.proofs.SerialLemmas.{serial_from}
use Rattle.step_world.proofs.world.World.open.Goals as goal

pub invariant_of-result : goal.invariant_of-result
invariant_of-result g c _ =
    opened_well c.in_ok-parts.parts c.args.shape.now.stripes c.args.shape.now.clock c.args.state
    (c.in_ok-parts.ensures.reached refl) c.in_ok-parts.ensures.world

pub returns-clause-from : goal.returns-clause-from
returns-clause-from g c = record {
  world = world_of c.args.shape.now.stripes c.args.shape.now.clock c.args.state;
  reached = c.in_ok-parts.ensures.reached refl;
  parts = c.in_ok-parts.ensures.world;
}

pub returns-clause-serial : goal.returns-clause-serial
returns-clause-serial g c =
    serial_from c.serial_worlds.ensures.serial c.traces.ensures.state c.args.state c.in_ok-parts.parts
    (returns-clause-from g c)

pub returns-clause-small : goal.returns-clause-small
returns-clause-small g c =
    small_opened c.in_ok-parts.parts (world_of c.args.shape.now.stripes c.args.shape.now.clock c.args.state) c.in_ok-parts.ensures.world
    (few_locations c.args.shape.now.stripes c.args.state.held (c.in_ok-parts.ensures.fits refl).1.stripes)
