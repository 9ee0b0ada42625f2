use Rattle.std.proofs.Common.{refl, sym, le-leb}
use Rattle.step_core.specs.declared.actor.Place.TheVariants.{Look}
use Rattle.tx_actor.proofs.LoadStepLemmas.{loads_word}
use Rattle.tx_turns.specs.Ties.{laid_in}
use Rattle.shared_table.specs.Seated.{opening_of}
use Rattle.tx_turns.specs.Straight.{at_place}
use Rattle.tx_turns.proofs.StraightLemmas.{LoadLaws, loading_hears, loading_last, look_due, look_loads, look_steps}
use Rattle.tx_turns.proofs.loads.look_for.Goals as goal

pub load_lock-found-requires-clause-own : goal.load_lock-found-requires-clause-own
load_lock-found-requires-clause-own g c = c.requires.ties.owns

pub load_lock-found-requires-clause-live : goal.load_lock-found-requires-clause-live
load_lock-found-requires-clause-live g c = c.requires.ties.live

pub load_lock-found-requires-clause-location : goal.load_lock-found-requires-clause-location
load_lock-found-requires-clause-location g c = c.requires.ties.running.fits.place.0

pub load_lock-found-requires-clause-due : goal.load_lock-found-requires-clause-due
load_lock-found-requires-clause-due g c =
    look_due c.args.table.now c.args.seat.now c.args.actor.now c.args.location
    (loads_word (at_place c.args.actor.now (Look c.args.location)) c.args.actor.now.stage
    c.requires.loading c.requires.ties.running.room)
    c.requires.ties

pub returns-then-version-actor-clause-actor : goal.returns-then-version-actor-clause-actor
returns-then-version-actor-clause-actor g c = refl

pub returns-then-version-actor-clause-led : goal.returns-then-version-actor-clause-led
returns-then-version-actor-clause-led g c =
    look_loads (record {
      steps = c.steps_as_worlds.ensures;
      hear = c.loads_as_worlds.ensures.heard;
      seats = c.seats_as_actors.ensures;
      stay = c.loads_stay_own.ensures;
      others = c.copies_by_stage.ensures.others;
      keep = c.loads_keep_running.ensures;
    }) c.args.table.now c.args.seat.now c.load_lock-found.new.seat c.args.actor.now c.args.location c.in-Free.version
    c.load_lock-found.result c.args.bases.now c.requires.loading c.requires.small c.requires.ties c.requires.own
    c.load_lock-found.ensures (sym c.in-Free.ensures.is)
    (le-leb c.in-Free.version c.args.actor.now.words.rv c.if-version-actor.true)

pub look-told-requires : goal.look-told-requires
look-told-requires g c = record { place = refl }

pub on_load_step-requires : goal.on_load_step-requires
on_load_step-requires g c = record {
  prepared = (loading_hears (record {
    steps = c.steps_as_worlds.ensures;
    hear = c.loads_as_worlds.ensures.heard;
    seats = c.seats_as_actors.ensures;
    stay = c.loads_stay_own.ensures;
    others = c.copies_by_stage.ensures.others;
    keep = c.loads_keep_running.ensures;
  }) c.args.table.now c.args.seat.now c.load_lock-found.new.seat
      (at_place c.args.actor.now (Look c.args.location)) c.look-told.new.self c.look-told.result c.requires.loading c.requires.ties
      (look_steps (opening_of c.args.table.now) c.args.seat.now c.load_lock-found.new.seat c.args.actor.now.words c.look-told.new.self
      c.args.location c.load_lock-found.result c.look-told.result c.load_lock-found.ensures c.look-told.ensures.actor
      c.look-told.ensures.answer) (λ _. c.look-told.ensures.room) c.look-told.ensures.keeps.fits).0;
}

pub returns-clause-moved : goal.returns-clause-moved
returns-clause-moved g c =
    loading_last (record {
      steps = c.steps_as_worlds.ensures;
      hear = c.loads_as_worlds.ensures.heard;
      seats = c.seats_as_actors.ensures;
      stay = c.loads_stay_own.ensures;
      others = c.copies_by_stage.ensures.others;
      keep = c.loads_keep_running.ensures;
    }) c.args.table.now c.args.seat.now c.load_lock-found.new.seat
    (at_place c.args.actor.now (Look c.args.location)) c.on_load_step.new.self c.look-told.new.self c.look-told.result c.on_load_step.result
    c.args.bases.now c.requires.loading c.requires.small c.requires.ties c.requires.own
    (look_steps (opening_of c.args.table.now) c.args.seat.now c.load_lock-found.new.seat c.args.actor.now.words c.look-told.new.self
    c.args.location c.load_lock-found.result c.look-told.result c.load_lock-found.ensures c.look-told.ensures.actor
    c.look-told.ensures.answer) (λ _. c.look-told.ensures.room) c.look-told.ensures.keeps.fits c.on_load_step.ensures.does
    (c.on_load_step.ensures.keeps (laid_in c.args.table.now)).running c.on_load_step.ensures.goes
