use Rattle.std.proofs.Common.{◌<◌, length, arith}
use Rattle.tx_turns.proofs.ReleaseLemmas.{release_due, release_led}
use Rattle.tx_turns.proofs.releases.release_on.Goals as goal

pub store_lock-requires-clause-due : goal.store_lock-requires-clause-due
store_lock-requires-clause-due g c =
    release_due c.args.table.now c.args.seat.now c.args.actor.now c.index.result.now c.requires.stage c.requires.place
    (omega (arith, c.requires.left, c.args.actor.now.words.held.ok.0)) c.index.ensures c.requires.ties

pub returns-clause-led : goal.returns-clause-led
returns-clause-led g c =
    let more : 1 < length c.args.actor.now.words.held.items = omega (arith, c.requires.left, c.args.actor.now.words.held.ok.0) in
    release_led c.steps_as_worlds.ensures c.turns_keep_own.ensures.words c.args.table.now c.args.seat.now c.store_lock.new.seat
    c.args.actor.now c.frees.new.words c.index.result.now c.args.bases.now c.requires.stage c.requires.place more c.index.ensures
    c.requires.small c.requires.ties c.requires.own c.store_lock.ensures c.frees.ensures.actor c.frees.ensures.fits
