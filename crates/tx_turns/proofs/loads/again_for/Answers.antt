use Rattle.std.proofs.Common.{refl}
use Rattle.step_core.specs.declared.actor.Place.TheVariants.{Again}
use Rattle.tx_actor.proofs.LoadStepLemmas.{loads_word}
use Rattle.tx_turns.specs.Ties.{laid_in}
use Rattle.shared_table.specs.Seated.{opening_of}
use Rattle.tx_turns.specs.Straight.{at_place}
use Rattle.tx_turns.proofs.StraightLemmas.{LoadLaws, again_due, again_steps, loading_hears, loading_last}
use Rattle.tx_turns.proofs.loads.again_for.Goals as goal

pub load_lock-found-requires-clause-own : goal.load_lock-found-requires-clause-own
load_lock-found-requires-clause-own g c = c.requires.ties.owns

pub load_lock-found-requires-clause-live : goal.load_lock-found-requires-clause-live
load_lock-found-requires-clause-live g c = c.requires.ties.live

pub load_lock-found-requires-clause-location : goal.load_lock-found-requires-clause-location
load_lock-found-requires-clause-location g c = c.requires.ties.running.fits.place.0

pub load_lock-found-requires-clause-due : goal.load_lock-found-requires-clause-due
load_lock-found-requires-clause-due g c =
    again_due c.args.table.now c.args.seat.now c.args.actor.now c.args.location c.args.version c.args.value
    (loads_word (at_place c.args.actor.now (Again c.args.location c.args.version c.args.value)) c.args.actor.now.stage
    c.requires.loading c.requires.ties.running.room)
    c.requires.ties

pub again-told-requires-clause-place : goal.again-told-requires-clause-place
again-told-requires-clause-place g c = refl

pub again-told-requires-clause-room : goal.again-told-requires-clause-room
again-told-requires-clause-room g c = c.requires.ties.running.fits.place.1

pub again-told-requires-clause-limit : goal.again-told-requires-clause-limit
again-told-requires-clause-limit g c = c.requires.ties.running.fits.place.2

pub again-told-requires-clause-calls : goal.again-told-requires-clause-calls
again-told-requires-clause-calls g c = c.requires.ties.running.fits.place.3

pub on_load_step-requires : goal.on_load_step-requires
on_load_step-requires g c = record {
  prepared = (loading_hears (record {
    steps = c.steps_as_worlds.ensures;
    hear = c.loads_as_worlds.ensures.heard;
    seats = c.seats_as_actors.ensures;
    stay = c.loads_stay_own.ensures;
    others = c.copies_by_stage.ensures.others;
    keep = c.loads_keep_running.ensures;
  }) c.args.table.now c.args.seat.now c.load_lock-found.new.seat
      (at_place c.args.actor.now (Again c.args.location c.args.version c.args.value)) c.again-told.new.self c.again-told.result
      c.requires.loading c.requires.ties
      (again_steps (opening_of c.args.table.now) c.args.seat.now c.load_lock-found.new.seat c.args.actor.now.words c.again-told.new.self
      c.args.location c.args.version c.args.value c.load_lock-found.result c.again-told.result c.load_lock-found.ensures
      c.again-told.ensures.actor c.again-told.ensures.answer) (λ _. c.again-told.ensures.room) c.again-told.ensures.keeps.fits).0;
}

pub returns : goal.returns
returns g c =
    loading_last (record {
      steps = c.steps_as_worlds.ensures;
      hear = c.loads_as_worlds.ensures.heard;
      seats = c.seats_as_actors.ensures;
      stay = c.loads_stay_own.ensures;
      others = c.copies_by_stage.ensures.others;
      keep = c.loads_keep_running.ensures;
    }) c.args.table.now c.args.seat.now c.load_lock-found.new.seat
    (at_place c.args.actor.now (Again c.args.location c.args.version c.args.value)) c.on_load_step.new.self c.again-told.new.self
    c.again-told.result c.on_load_step.result c.args.bases.now c.requires.loading c.requires.small c.requires.ties c.requires.own
    (again_steps (opening_of c.args.table.now) c.args.seat.now c.load_lock-found.new.seat c.args.actor.now.words c.again-told.new.self
    c.args.location c.args.version c.args.value c.load_lock-found.result c.again-told.result c.load_lock-found.ensures
    c.again-told.ensures.actor c.again-told.ensures.answer) (λ _. c.again-told.ensures.room) c.again-told.ensures.keeps.fits
    c.on_load_step.ensures.does (c.on_load_step.ensures.keeps (laid_in c.args.table.now)).running c.on_load_step.ensures.goes
