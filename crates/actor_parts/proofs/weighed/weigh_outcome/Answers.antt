use Rattle.std.proofs.Common.{◌<◌, arith}
use Rattle.actor_parts.specs.Footprints.{location_count}
use Rattle.actor_parts.proofs.WeighedLemmas.{key_below}
use Rattle.actor_parts.proofs.weighed.weigh_outcome.Goals as goal

pub weigh_key-requires-clause-place : goal.weigh_key-requires-clause-place
weigh_key-requires-clause-place g c =
    key_below c.args.copied.now c.args.outcome.now c.in-Some.at.location c.requires.stripes c.in-Some.ensures.reads

pub weigh_key-requires-clause-range : goal.weigh_key-requires-clause-range
weigh_key-requires-clause-range g c =
    let here : c.in-Some.at.location < location_count c.args.copied.now =
    key_below c.args.copied.now c.args.outcome.now c.in-Some.at.location c.requires.stripes c.in-Some.ensures.reads in
    omega (arith, here, c.requires.range)
