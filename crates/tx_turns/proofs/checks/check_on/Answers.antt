use Rattle.std.proofs.Common.{arith}
use Rattle.step_core.specs.declared.actor.Place.TheVariants.{Check}
use Rattle.shared_table.specs.Seated.{opening_of}
use Rattle.tx_turns.specs.Ties.{laid_in}
use Rattle.tx_turns.specs.Straight.{at_place}
use Rattle.tx_turns.proofs.CheckLemmas.{check_due, check_led, check_steps}
use Rattle.tx_turns.proofs.LockLemmas.{locking_heard, quiet_locking, room_locking}
use Rattle.tx_turns.proofs.checks.check_on.Goals as goal

pub load_lock-found-requires-clause-due : goal.load_lock-found-requires-clause-due
load_lock-found-requires-clause-due g c =
    check_due c.args.table.now c.args.seat.now c.args.actor.now c.args.i c.read_at-location.result c.requires.stage
    (omega (arith, c.requires.left)) c.read_at-location.ensures c.requires.ties

pub returns-then-is_passed-clause-led : goal.returns-then-is_passed-clause-led
returns-then-is_passed-clause-led g c =
    check_led c.steps_as_worlds.ensures c.turns_keep_own.ensures.words c.args.table.now c.args.seat.now c.load_lock-found.new.seat
    c.args.actor.now c.args.i c.read_at-location.result c.load_lock-found.result c.args.bases.now c.requires.stage c.requires.left
    c.read_at-location.ensures c.requires.small c.requires.ties c.requires.own c.load_lock-found.ensures
    (c.is_passed.ensures c.if-is_passed.true)

pub on_step-requires : goal.on_step-requires
on_step-requires g c = room_locking _ c.args.actor.now.stage c.requires.stage

pub returns-clause-invalid : goal.returns-clause-invalid
returns-clause-invalid g c =
    locking_heard c.steps_as_worlds.ensures c.turns_keep_own.ensures.words c.args.table.now c.args.seat.now c.load_lock-found.new.seat
    (at_place c.args.actor.now (Check c.args.i)) c.on_step.new.self c.check-told.new.self c.check-told.result c.on_step.result
    c.args.bases.now c.requires.stage c.requires.small c.requires.ties c.requires.own
    (check_steps (opening_of c.args.table.now) c.args.seat.now c.load_lock-found.new.seat c.args.actor.now.words c.check-told.new.self
    c.args.i c.read_at-location.result c.load_lock-found.result c.check-told.result c.load_lock-found.ensures
    (omega (arith, c.requires.left)) c.read_at-location.ensures c.check-told.ensures.actor c.check-told.ensures.answer)
    c.check-told.ensures.keeps.fits c.on_step.ensures.does (c.on_step.ensures.keeps (laid_in c.args.table.now)).running
    (c.on_step.ensures.leaves (quiet_locking c.args.actor.now.stage c.requires.stage))
