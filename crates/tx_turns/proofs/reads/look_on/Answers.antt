use Rattle.std.proofs.Common.{refl, sym, le-leb}
use Rattle.step_core.specs.declared.actor.Place.TheVariants.{Look}
use Rattle.tx_actor.proofs.StepLemmas.{running_moved}
use Rattle.tx_turns.specs.Ties.{laid_in}
use Rattle.tx_turns.specs.Straight.{at_place}
use Rattle.tx_turns.proofs.StraightLemmas.{look_due, look_last, look_led, next_reading, quiet_reading}
use Rattle.tx_turns.proofs.reads.look_on.Goals as goal

pub load_lock-found-requires-clause-own : goal.load_lock-found-requires-clause-own
load_lock-found-requires-clause-own g c = c.requires.ties.owns

pub load_lock-found-requires-clause-live : goal.load_lock-found-requires-clause-live
load_lock-found-requires-clause-live g c = c.requires.ties.live

pub load_lock-found-requires-clause-location : goal.load_lock-found-requires-clause-location
load_lock-found-requires-clause-location g c = c.requires.ties.running.fits.place.0

pub load_lock-found-requires-clause-due : goal.load_lock-found-requires-clause-due
load_lock-found-requires-clause-due g c =
    look_due c.args.table.now c.args.seat.now c.args.actor.now c.args.word
    (next_reading c.args.actor.now.stage c.args.word c.requires.stage) c.requires.ties

pub returns-then-version-actor-clause-actor : goal.returns-then-version-actor-clause-actor
returns-then-version-actor-clause-actor g c = refl

pub returns-then-version-actor-clause-led : goal.returns-then-version-actor-clause-led
returns-then-version-actor-clause-led g c =
    look_led c.steps_as_worlds.ensures c.turns_keep_own.ensures.words c.args.table.now c.args.seat.now c.load_lock-found.new.seat
    c.args.actor.now c.args.word c.in-Free.version c.load_lock-found.result c.args.bases.now c.requires.stage c.requires.small
    c.requires.ties c.requires.own c.load_lock-found.ensures (sym c.in-Free.ensures.is)
    (le-leb c.in-Free.version c.args.actor.now.words.rv c.if-version-actor.true)

pub look-told-requires : goal.look-told-requires
look-told-requires g c = record { place = refl }

pub on_step-requires : goal.on_step-requires
on_step-requires g c =
    (running_moved (laid_in c.args.table.now) (at_place c.args.actor.now (Look c.args.word)) c.look-told.new.self
    c.look-told.ensures.keeps.fits (quiet_reading c.args.actor.now.stage c.args.word c.requires.stage) c.requires.ties.running).room

pub returns-clause-moved : goal.returns-clause-moved
returns-clause-moved g c =
    look_last c.steps_as_worlds.ensures c.turns_keep_own.ensures.words c.args.table.now c.args.seat.now c.load_lock-found.new.seat
    c.args.actor.now c.on_step.new.self c.look-told.new.self c.look-told.result c.on_step.result c.args.word c.load_lock-found.result
    c.args.bases.now c.requires.stage c.requires.small c.requires.ties c.requires.own c.load_lock-found.ensures c.look-told.ensures.actor
    c.look-told.ensures.answer c.look-told.ensures.keeps.fits c.on_step.ensures.does
    (c.on_step.ensures.keeps (laid_in c.args.table.now)).running
    (c.on_step.ensures.leaves (quiet_reading c.args.actor.now.stage c.args.word c.requires.stage))
