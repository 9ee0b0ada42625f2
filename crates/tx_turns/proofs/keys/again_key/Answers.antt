use Rattle.std.proofs.Common.{[], Err, refl}
use Rattle.step_core.specs.declared.actor.Place.TheVariants.{Again}
use Rattle.tx_actor.proofs.LoadStepLemmas.{loads_word}
use Rattle.tx_actor.specs.Running.{at}
use Rattle.tx_actor.specs.declared.actor.Stage.TheVariants as stage
use Rattle.shared_table.specs.Seated.{opening_of}
use Rattle.tx_turns.specs.Ties.{laid_in}
use Rattle.tx_turns.specs.Straight.{at_place}
use Rattle.tx_turns.proofs.KeyLemmas.{found_last, found_may}
use Rattle.tx_turns.proofs.StraightLemmas.{again_due, again_steps, loading_hears, loading_last}
use Rattle.tx_turns.proofs.keys.again_key.Goals as goal

pub load_lock-found-requires-clause-own : goal.load_lock-found-requires-clause-own
load_lock-found-requires-clause-own g c = c.requires.ties.owns

pub load_lock-found-requires-clause-live : goal.load_lock-found-requires-clause-live
load_lock-found-requires-clause-live g c = c.requires.ties.live

pub load_lock-found-requires-clause-location : goal.load_lock-found-requires-clause-location
load_lock-found-requires-clause-location g c =
    c.requires.ties.running.fits.place.0

pub load_lock-found-requires-clause-due : goal.load_lock-found-requires-clause-due
load_lock-found-requires-clause-due g c =
    let r = at c.args.actor.now (stage.Loading c.args.call c.args.left) in
    again_due c.args.table.now c.args.seat.now r c.args.location c.args.version c.args.value
    (loads_word (at_place r (Again c.args.location c.args.version c.args.value)) r.stage refl c.requires.ties.running.room) c.requires.ties

pub again-requires-clause-place : goal.again-requires-clause-place
again-requires-clause-place g c =
    refl

pub again-requires-clause-room : goal.again-requires-clause-room
again-requires-clause-room g c =
    c.requires.ties.running.fits.place.1

pub again-requires-clause-limit : goal.again-requires-clause-limit
again-requires-clause-limit g c =
    c.requires.ties.running.fits.place.2

pub again-requires-clause-calls : goal.again-requires-clause-calls
again-requires-clause-calls g c =
    c.requires.ties.running.fits.place.3

pub on_found-requires : goal.on_found-requires
on_found-requires g c =
    record {
      prepared = found_may (record {
        steps = c.steps_as_worlds.ensures;
        hear = c.loads_as_worlds.ensures.heard;
        seats = c.seats_as_actors.ensures;
        stay = c.loads_stay_own.ensures;
        others = c.copies_by_stage.ensures.others;
        keep = c.loads_keep_running.ensures;
      }) c.args.table.now c.args.seat.now c.load_lock-found.new.seat c.args.actor.now c.args.call c.args.left c.args.location c.args.version
          c.args.value c.load_lock-found.result c.again.new.self c.in-Ok.told c.requires.ties c.load_lock-found.ensures
          c.again.ensures.actor
          c.in-Ok.ensures.answer c.again.ensures.room c.again.ensures.keeps.fits;
    }

pub returns-in-Ok : goal.returns-in-Ok
returns-in-Ok g c =
    found_last (record {
      steps = c.steps_as_worlds.ensures;
      hear = c.loads_as_worlds.ensures.heard;
      seats = c.seats_as_actors.ensures;
      stay = c.loads_stay_own.ensures;
      others = c.copies_by_stage.ensures.others;
      keep = c.loads_keep_running.ensures;
    }) c.args.table.now c.args.seat.now c.load_lock-found.new.seat c.args.actor.now c.args.call c.args.left c.args.location c.args.version
    c.args.value c.load_lock-found.result c.again.new.self c.in-Ok.told c.requires.ties c.load_lock-found.ensures
    c.again.ensures.actor
    c.in-Ok.ensures.answer c.again.ensures.room c.again.ensures.keeps.fits
    c.on_found.new.self c.on_found.result c.requires.small c.requires.own c.on_found.ensures.does
    (c.on_found.ensures.keeps (laid_in c.args.table.now)) c.on_found.ensures.goes

pub on_load_step-requires : goal.on_load_step-requires
on_load_step-requires g c =
    let r = at c.args.actor.now (stage.Loading c.args.call c.args.left) in
    record {
      prepared = (loading_hears (record {
        steps = c.steps_as_worlds.ensures;
        hear = c.loads_as_worlds.ensures.heard;
        seats = c.seats_as_actors.ensures;
        stay = c.loads_stay_own.ensures;
        others = c.copies_by_stage.ensures.others;
        keep = c.loads_keep_running.ensures;
      }) c.args.table.now c.args.seat.now c.load_lock-found.new.seat
          (at_place r (Again c.args.location c.args.version c.args.value)) c.again.new.self (Err c.in-Err.cause) refl c.requires.ties
          (again_steps (opening_of c.args.table.now) c.args.seat.now c.load_lock-found.new.seat c.args.actor.now.words c.again.new.self
          c.args.location c.args.version c.args.value c.load_lock-found.result (Err c.in-Err.cause) c.load_lock-found.ensures
          c.again.ensures.actor c.in-Err.ensures.answer) (λ _. c.again.ensures.room) c.again.ensures.keeps.fits).0;
    }

pub returns-in-Err : goal.returns-in-Err
returns-in-Err g c =
    let r = at c.args.actor.now (stage.Loading c.args.call c.args.left) in
    loading_last (record {
      steps = c.steps_as_worlds.ensures;
      hear = c.loads_as_worlds.ensures.heard;
      seats = c.seats_as_actors.ensures;
      stay = c.loads_stay_own.ensures;
      others = c.copies_by_stage.ensures.others;
      keep = c.loads_keep_running.ensures;
    }) c.args.table.now c.args.seat.now c.load_lock-found.new.seat
    (at_place r (Again c.args.location c.args.version c.args.value)) c.on_load_step.new.self c.again.new.self (Err c.in-Err.cause)
    c.on_load_step.result
    []
    refl c.requires.small c.requires.ties c.requires.own
    (again_steps (opening_of c.args.table.now) c.args.seat.now c.load_lock-found.new.seat c.args.actor.now.words c.again.new.self
    c.args.location c.args.version c.args.value c.load_lock-found.result (Err c.in-Err.cause) c.load_lock-found.ensures
    c.again.ensures.actor c.in-Err.ensures.answer) (λ _. c.again.ensures.room) c.again.ensures.keeps.fits
    c.on_load_step.ensures.does (c.on_load_step.ensures.keeps (laid_in c.args.table.now)).running c.on_load_step.ensures.goes
