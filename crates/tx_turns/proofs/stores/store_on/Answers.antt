use Rattle.std.proofs.Common.{arith}
use Rattle.tx_turns.proofs.StoreLemmas.{store_due, store_led}
use Rattle.tx_turns.proofs.stores.store_on.Goals as goal

pub store_value-requires-clause-due : goal.store_value-requires-clause-due
store_value-requires-clause-due g c =
    store_due c.args.table.now c.args.seat.now c.args.actor.now c.args.i c.write_at-location.result c.requires.stage
    (omega (arith, c.requires.left)) c.write_at-location.ensures c.requires.ties

pub returns : goal.returns
returns g c =
    store_led c.steps_as_worlds.ensures c.turns_keep_own.ensures.words c.args.table.now c.args.seat.now c.store_value.new.seat
    c.args.actor.now c.args.i c.write_at-location.result c.args.bases.now c.requires.stage c.requires.left c.write_at-location.ensures
    c.requires.small c.requires.ties c.requires.own c.store_value.ensures
