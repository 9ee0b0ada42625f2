use Rattle.std.proofs.Common.{ap}
use Rattle.actor_parts.specs.Dispatch.{is_loading}
use Rattle.tx_actor.specs.Running.{stage_of}
use Rattle.tx_actor.specs.declared.actor.Stage.{Stage}
use Rattle.tx_turns.specs.Ties.{laid_in}
use Rattle.tx_turns.proofs.BeginLemmas.{begin_due, begin_heard, room_beginning}
use Rattle.tx_turns.proofs.begins.begin_on.Goals as goal

pub load_clock-clock-requires-clause-due : goal.load_clock-clock-requires-clause-due
load_clock-clock-requires-clause-due g c =
    begin_due c.args.table.now c.args.seat.now c.args.actor.now c.requires.stage c.requires.place c.requires.ties

pub on_step-requires : goal.on_step-requires
on_step-requires g c = room_beginning _ c.args.actor.now.stage c.requires.stage

pub returns : goal.returns
returns g c =
    begin_heard c.steps_as_worlds.ensures c.turns_keep_own.ensures.words c.args.table.now c.args.seat.now c.load_clock-clock.new.seat
    c.args.actor.now c.on_step.new.self c.begin-told.new.self c.begin-told.result c.on_step.result c.load_clock-clock.result
    c.args.bases.now c.requires.stage c.requires.place c.requires.small c.requires.ties c.requires.own c.load_clock-clock.ensures.room.0
    c.load_clock-clock.ensures.step c.begin-told.ensures.actor c.begin-told.ensures.answer c.begin-told.ensures.fits c.on_step.ensures.does
    (c.on_step.ensures.keeps (laid_in c.args.table.now)).running
    (c.on_step.ensures.leaves (ap (λ (s : Stage _). is_loading (stage_of s)) c.requires.stage))
