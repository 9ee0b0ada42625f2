use Rattle.std.proofs.Common.{Ok, Err, refl}
use Rattle.vlock_word.specs.LockWord.{unbits}
use Rattle.tx_actor.specs.declared.actor.TxActor.{TxActor}
use Rattle.step_core.specs.declared.actor.Place.TheVariants.{Again}
use Rattle.tx_actor.proofs.StepLemmas.{running_moved}
use Rattle.tx_turns.specs.Ties.{laid_in}
use Rattle.tx_turns.specs.Straight.{at_place}
use Rattle.tx_turns.proofs.StraightLemmas.{again_due, again_last, leaves_reading, next_reading}
use Rattle.tx_turns.proofs.StraightLemmas.{number_heard, quiet_reading, room_reading, running_idle}
use Rattle.tx_turns.proofs.reads.again_on.Goals as goal

pub load_lock-found-requires-clause-own : goal.load_lock-found-requires-clause-own
load_lock-found-requires-clause-own g c = c.requires.ties.owns

pub load_lock-found-requires-clause-live : goal.load_lock-found-requires-clause-live
load_lock-found-requires-clause-live g c = c.requires.ties.live

pub load_lock-found-requires-clause-location : goal.load_lock-found-requires-clause-location
load_lock-found-requires-clause-location g c = c.requires.ties.running.fits.place.0

pub load_lock-found-requires-clause-due : goal.load_lock-found-requires-clause-due
load_lock-found-requires-clause-due g c =
    again_due c.args.table.now c.args.seat.now c.args.actor.now c.args.word c.args.version c.args.value
    (next_reading c.args.actor.now.stage c.args.word c.requires.stage) c.requires.ties

pub again-requires-clause-place : goal.again-requires-clause-place
again-requires-clause-place g c = refl

pub again-requires-clause-room : goal.again-requires-clause-room
again-requires-clause-room g c = c.requires.ties.running.fits.place.1

pub again-requires-clause-limit : goal.again-requires-clause-limit
again-requires-clause-limit g c = c.requires.ties.running.fits.place.2

pub again-requires-clause-calls : goal.again-requires-clause-calls
again-requires-clause-calls g c = c.requires.ties.running.fits.place.3

pub read-requires : goal.read-requires
read-requires g c = record {
  room = room_reading (record c.args.actor.now { words = c.again.new.self }) c.args.actor.now.stage c.args.word c.requires.stage
      (running_moved (laid_in c.args.table.now) (at_place c.args.actor.now (Again c.args.word c.args.version c.args.value))
      c.again.new.self c.again.ensures.keeps.fits (quiet_reading c.args.actor.now.stage c.args.word c.requires.stage)
      c.requires.ties.running).room;
}

pub on_step-requires : goal.on_step-requires
on_step-requires g c =
    (running_moved (laid_in c.args.table.now) (at_place c.args.actor.now (Again c.args.word c.args.version c.args.value))
    c.again.new.self c.again.ensures.keeps.fits (quiet_reading c.args.actor.now.stage c.args.word c.requires.stage)
    c.requires.ties.running).room

pub returns-in-Ok : goal.returns-in-Ok
returns-in-Ok g c =
    let p : TxActor _ = record c.args.actor.now { words = c.again.new.self } in
    again_last c.steps_as_worlds.ensures c.turns_keep_own.ensures.words c.args.table.now c.args.seat.now c.load_lock-found.new.seat
    c.args.actor.now c.read.new.self c.again.new.self (Ok c.in-Ok.told) c.read.result c.args.word c.args.version c.args.value
    c.load_lock-found.result c.args.bases.now c.requires.stage c.requires.small c.requires.ties c.requires.own c.load_lock-found.ensures
    c.again.ensures.actor c.in-Ok.ensures.answer c.again.ensures.keeps.fits
    (number_heard p c.read.new.self c.args.word c.args.version c.args.value (unbits c.load_lock-found.result) c.in-Ok.told c.read.result
    c.requires.stage c.in-Ok.ensures.answer c.read.ensures.does)
    (λ h. (c.read.ensures.keeps (laid_in c.args.table.now)).running (running_idle (laid_in c.args.table.now) p h))
    (leaves_reading p c.read.new.self c.args.word c.requires.stage c.read.ensures.leaves)

pub returns-in-Err : goal.returns-in-Err
returns-in-Err g c =
    again_last c.steps_as_worlds.ensures c.turns_keep_own.ensures.words c.args.table.now c.args.seat.now c.load_lock-found.new.seat
    c.args.actor.now c.on_step.new.self c.again.new.self (Err c.in-Err.cause) c.on_step.result c.args.word c.args.version c.args.value
    c.load_lock-found.result c.args.bases.now c.requires.stage c.requires.small c.requires.ties c.requires.own c.load_lock-found.ensures
    c.again.ensures.actor c.in-Err.ensures.answer c.again.ensures.keeps.fits c.on_step.ensures.does
    (c.on_step.ensures.keeps (laid_in c.args.table.now)).running
    (c.on_step.ensures.leaves (quiet_reading c.args.actor.now.stage c.args.word c.requires.stage))
