use Rattle.std.proofs.Common.{arith}
use Rattle.tx_turns.specs.Ties.{laid_in}
use Rattle.tx_turns.proofs.LockLemmas.{quiet_locking, room_locking, stamp_due, stamp_heard}
use Rattle.tx_turns.proofs.locks.stamp_on.Goals as goal

pub stamp-clock-requires-clause-due : goal.stamp-clock-requires-clause-due
stamp-clock-requires-clause-due g c =
    stamp_due c.args.table.now c.args.seat.now c.args.actor.now c.args.i c.requires.stage c.requires.all c.requires.ties

pub stamp-told-requires-clause-clock : goal.stamp-told-requires-clause-clock
stamp-told-requires-clause-clock g c = omega (arith, c.stamp-clock.ensures.room.1)

pub on_step-requires : goal.on_step-requires
on_step-requires g c = room_locking _ c.args.actor.now.stage c.requires.stage

pub returns : goal.returns
returns g c =
    stamp_heard c.steps_as_worlds.ensures c.turns_keep_own.ensures.words c.args.table.now c.args.seat.now c.stamp-clock.new.seat
    c.args.actor.now c.on_step.new.self c.stamp-told.new.self c.stamp-told.result c.on_step.result c.args.i c.stamp-clock.result
    c.args.bases.now c.requires.stage c.requires.all c.requires.small c.requires.ties c.requires.own c.stamp-clock.ensures.room.0
    c.stamp-clock.ensures.room.1 c.stamp-clock.ensures.step c.stamp-told.ensures.actor c.stamp-told.ensures.answer
    c.stamp-told.ensures.fits c.on_step.ensures.does (c.on_step.ensures.keeps (laid_in c.args.table.now)).running
    (c.on_step.ensures.leaves (quiet_locking c.args.actor.now.stage c.requires.stage))
