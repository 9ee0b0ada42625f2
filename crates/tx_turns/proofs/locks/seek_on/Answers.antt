use Rattle.std.proofs.Common.{sym}
use Rattle.step_core.specs.declared.actor.Place.TheVariants.{Lock}
use Rattle.shared_table.specs.Seated.{opening_of}
use Rattle.tx_turns.specs.Ties.{laid_in}
use Rattle.tx_turns.specs.Straight.{at_place}
use Rattle.tx_turns.proofs.LockLemmas.{locking_heard, quiet_locking, room_locking, seek_due, seek_led, seek_steps}
use Rattle.tx_turns.proofs.locks.seek_on.Goals as goal

pub load_lock-found-requires-clause-due : goal.load_lock-found-requires-clause-due
load_lock-found-requires-clause-due g c =
    seek_due c.args.table.now c.args.seat.now c.args.actor.now c.args.i c.write_at-location.result c.requires.stage c.requires.inside
    c.write_at-location.ensures c.requires.ties

pub returns-in-Free-clause-led : goal.returns-in-Free-clause-led
returns-in-Free-clause-led g c =
    seek_led c.steps_as_worlds.ensures c.turns_keep_own.ensures.words c.args.table.now c.args.seat.now c.load_lock-found.new.seat
    c.args.actor.now c.args.i c.write_at-location.result c.in-Free.version c.load_lock-found.result c.args.bases.now c.requires.stage
    c.requires.inside c.write_at-location.ensures c.requires.small c.requires.ties c.requires.own c.load_lock-found.ensures
    (sym c.in-Free.ensures.is) c.in-Free.ensures.version

pub on_step-requires : goal.on_step-requires
on_step-requires g c = room_locking _ c.args.actor.now.stage c.requires.stage

pub returns-clause-busy : goal.returns-clause-busy
returns-clause-busy g c =
    locking_heard c.steps_as_worlds.ensures c.turns_keep_own.ensures.words c.args.table.now c.args.seat.now c.load_lock-found.new.seat
    (at_place c.args.actor.now (Lock c.args.i)) c.on_step.new.self c.to_lock-told.new.self c.to_lock-told.result c.on_step.result
    c.args.bases.now c.requires.stage c.requires.small c.requires.ties c.requires.own
    (seek_steps (opening_of c.args.table.now) c.args.seat.now c.load_lock-found.new.seat c.args.actor.now.words c.to_lock-told.new.self
    c.args.i c.write_at-location.result c.load_lock-found.result c.to_lock-told.result c.load_lock-found.ensures c.requires.inside
    c.write_at-location.ensures c.to_lock-told.ensures.actor c.to_lock-told.ensures.answer)
    c.to_lock-told.ensures.keeps.fits c.on_step.ensures.does (c.on_step.ensures.keeps (laid_in c.args.table.now)).running
    (c.on_step.ensures.leaves (quiet_locking c.args.actor.now.stage c.requires.stage))
