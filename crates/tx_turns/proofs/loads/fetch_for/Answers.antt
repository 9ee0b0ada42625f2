use Rattle.step_core.specs.declared.actor.Place.TheVariants.{Fetch}
use Rattle.tx_actor.proofs.LoadStepLemmas.{loads_word}
use Rattle.tx_turns.specs.Straight.{at_place}
use Rattle.tx_turns.proofs.StraightLemmas.{LoadLaws, fetch_due, fetch_loads}
use Rattle.tx_turns.proofs.loads.fetch_for.Goals as goal

pub load_value-requires-clause-own : goal.load_value-requires-clause-own
load_value-requires-clause-own g c = c.requires.ties.owns

pub load_value-requires-clause-live : goal.load_value-requires-clause-live
load_value-requires-clause-live g c = c.requires.ties.live

pub load_value-requires-clause-location : goal.load_value-requires-clause-location
load_value-requires-clause-location g c = c.requires.ties.running.fits.place.0

pub load_value-requires-clause-due : goal.load_value-requires-clause-due
load_value-requires-clause-due g c =
    fetch_due c.args.table.now c.args.seat.now c.args.actor.now c.args.location c.args.version
    (loads_word (at_place c.args.actor.now (Fetch c.args.location c.args.version)) c.args.actor.now.stage
    c.requires.loading c.requires.ties.running.room)
    c.requires.ties

pub returns : goal.returns
returns g c =
    fetch_loads (record {
      steps = c.steps_as_worlds.ensures;
      hear = c.loads_as_worlds.ensures.heard;
      seats = c.seats_as_actors.ensures;
      stay = c.loads_stay_own.ensures;
      others = c.copies_by_stage.ensures.others;
      keep = c.loads_keep_running.ensures;
    }) c.args.table.now c.args.seat.now c.load_value.new.seat c.args.actor.now c.args.location c.args.version
    c.load_value.result c.args.bases.now c.requires.loading c.requires.small c.requires.ties c.requires.own c.load_value.ensures
