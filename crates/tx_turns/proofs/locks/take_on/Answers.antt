use Rattle.std.proofs.Common.{arith}
use Rattle.tx_turns.specs.Ties.{laid_in}
use Rattle.tx_turns.proofs.LockLemmas.{quiet_locking, room_locking, take_due, take_led, take_lost}
use Rattle.tx_turns.proofs.locks.take_on.Goals as goal

pub lock-requires-clause-location : goal.lock-requires-clause-location
lock-requires-clause-location g c = c.requires.ties.running.fits.place.0

pub lock-requires-clause-room : goal.lock-requires-clause-room
lock-requires-clause-room g c = omega (arith, c.requires.ties.running.fits.place.1)

pub lock-requires-clause-due : goal.lock-requires-clause-due
lock-requires-clause-due g c =
    take_due c.args.table.now c.args.seat.now c.args.actor.now c.args.location c.args.version c.args.i c.requires.stage c.requires.ties

pub push_back_reserved-requires : goal.push_back_reserved-requires
push_back_reserved-requires g c = omega (arith, c.requires.ties.running.fits.place.2)

pub on_step-requires : goal.on_step-requires
on_step-requires g c = room_locking _ c.args.actor.now.stage c.requires.stage

pub returns-in-None-clause-led : goal.returns-in-None-clause-led
returns-in-None-clause-led g c =
    take_led c.steps_as_worlds.ensures c.turns_keep_own.ensures.words c.args.table.now c.args.seat.now c.lock.new.seat c.args.actor.now
    c.push_back_reserved.new.self c.args.location c.args.version c.args.i c.args.bases.now c.requires.stage c.requires.small
    c.requires.ties c.requires.own c.in-None.ensures c.push_back_reserved.ensures.items c.push_back_reserved.ensures.len
    c.push_back_reserved.ensures.capacity

pub returns-in-Some-clause-busy : goal.returns-in-Some-clause-busy
returns-in-Some-clause-busy g c =
    take_lost c.steps_as_worlds.ensures c.turns_keep_own.ensures.words c.args.table.now c.args.seat.now c.lock.new.seat c.args.actor.now
    c.on_step.new.self c.on_step.result c.args.location c.args.version c.args.i c.in-Some.word c.args.bases.now c.requires.stage
    c.requires.small c.requires.ties c.requires.own c.in-Some.ensures.0 c.in-Some.ensures.1 c.on_step.ensures.does
    (c.on_step.ensures.keeps (laid_in c.args.table.now)).running
    (c.on_step.ensures.leaves (quiet_locking c.args.actor.now.stage c.requires.stage))
