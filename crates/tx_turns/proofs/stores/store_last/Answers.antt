use Rattle.tx_turns.specs.Ties.{laid_in}
use Rattle.tx_turns.proofs.StoreLemmas.{quiet_storing, store_due, store_heard}
use Rattle.tx_turns.proofs.stores.store_last.Goals as goal

pub store_value-requires-clause-due : goal.store_value-requires-clause-due
store_value-requires-clause-due g c =
    store_due c.args.table.now c.args.seat.now c.args.actor.now c.args.i c.write_at-location.result c.requires.stage c.requires.inside
    c.write_at-location.ensures c.requires.ties

pub returns : goal.returns
returns g c =
    store_heard c.steps_as_worlds.ensures c.turns_keep_own.ensures.words c.args.table.now c.args.seat.now c.store_value.new.seat
    c.args.actor.now c.on_step.new.self c.store-told.new.self c.store-told.result c.on_step.result c.args.i c.write_at-location.result
    c.args.bases.now c.requires.stage c.requires.inside c.write_at-location.ensures c.requires.small c.requires.ties c.requires.own
    c.store_value.ensures c.store-told.ensures.actor c.store-told.ensures.answer c.store-told.ensures.keeps.fits
    c.on_step.ensures.does (c.on_step.ensures.keeps (laid_in c.args.table.now)).running
    (c.on_step.ensures.leaves (quiet_storing c.args.actor.now.stage c.requires.stage))
