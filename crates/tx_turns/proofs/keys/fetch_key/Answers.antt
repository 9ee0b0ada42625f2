use Rattle.std.proofs.Common.{[], refl}
use Rattle.step_core.specs.declared.actor.Place.TheVariants.{Fetch}
use Rattle.tx_actor.proofs.LoadStepLemmas.{loads_word}
use Rattle.tx_actor.specs.Running.{at}
use Rattle.tx_actor.specs.declared.actor.Stage.TheVariants as stage
use Rattle.tx_turns.specs.Straight.{at_place}
use Rattle.tx_turns.proofs.StraightLemmas.{fetch_due, fetch_loads, led_then}
use Rattle.tx_turns.proofs.keys.fetch_key.Goals as goal

pub load_value-value-requires-clause-own : goal.load_value-value-requires-clause-own
load_value-value-requires-clause-own g c = c.requires.ties.owns

pub load_value-value-requires-clause-live : goal.load_value-value-requires-clause-live
load_value-value-requires-clause-live g c = c.requires.ties.live

pub load_value-value-requires-clause-location : goal.load_value-value-requires-clause-location
load_value-value-requires-clause-location g c =
    c.requires.ties.running.fits.place.0

pub load_value-value-requires-clause-due : goal.load_value-value-requires-clause-due
load_value-value-requires-clause-due g c =
    let r = at c.args.actor.now (stage.Loading c.args.call c.args.left) in
    fetch_due c.args.table.now c.args.seat.now r c.args.location c.args.version
    (loads_word (at_place r (Fetch c.args.location c.args.version)) r.stage refl c.requires.ties.running.room) c.requires.ties

pub again_key-requires-clause-ties : goal.again_key-requires-clause-ties
again_key-requires-clause-ties g c =
    let r = at c.args.actor.now (stage.Loading c.args.call c.args.left) in
    let led = fetch_loads (record {
      steps = c.steps_as_worlds.ensures;
      hear = c.loads_as_worlds.ensures.heard;
      seats = c.seats_as_actors.ensures;
      stay = c.loads_stay_own.ensures;
      others = c.copies_by_stage.ensures.others;
      keep = c.loads_keep_running.ensures;
    }) c.args.table.now c.args.seat.now c.load_value-value.new.seat r c.args.location c.args.version
    c.load_value-value.result [] refl c.requires.small c.requires.ties c.requires.own c.load_value-value.ensures in
    led.ties

pub again_key-requires-clause-own : goal.again_key-requires-clause-own
again_key-requires-clause-own g c =
    let r = at c.args.actor.now (stage.Loading c.args.call c.args.left) in
    let led = fetch_loads (record {
      steps = c.steps_as_worlds.ensures;
      hear = c.loads_as_worlds.ensures.heard;
      seats = c.seats_as_actors.ensures;
      stay = c.loads_stay_own.ensures;
      others = c.copies_by_stage.ensures.others;
      keep = c.loads_keep_running.ensures;
    }) c.args.table.now c.args.seat.now c.load_value-value.new.seat r c.args.location c.args.version
    c.load_value-value.result [] refl c.requires.small c.requires.ties c.requires.own c.load_value-value.ensures in
    led.own

pub returns : goal.returns
returns g c =
    let r = at c.args.actor.now (stage.Loading c.args.call c.args.left) in
    let led = fetch_loads (record {
      steps = c.steps_as_worlds.ensures;
      hear = c.loads_as_worlds.ensures.heard;
      seats = c.seats_as_actors.ensures;
      stay = c.loads_stay_own.ensures;
      others = c.copies_by_stage.ensures.others;
      keep = c.loads_keep_running.ensures;
    }) c.args.table.now c.args.seat.now c.load_value-value.new.seat r c.args.location c.args.version
    c.load_value-value.result [] refl c.requires.small c.requires.ties c.requires.own c.load_value-value.ensures in
    led_then c.args.table.now c.args.seat.now c.load_value-value.new.seat c.again_key.new.seat c.again_key.new.actor c.again_key.result []
    led.leads c.again_key.ensures
