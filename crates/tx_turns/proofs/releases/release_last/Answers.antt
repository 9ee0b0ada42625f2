use Rattle.std.proofs.Common.{◌≡◌, length, arith}
use Rattle.tx_turns.specs.Ties.{laid_in}
use Rattle.tx_turns.proofs.ReleaseLemmas.{release_due, release_heard}
use Rattle.tx_turns.proofs.releases.release_last.Goals as goal

pub store_lock-requires-clause-due : goal.store_lock-requires-clause-due
store_lock-requires-clause-due g c =
    release_due c.args.table.now c.args.seat.now c.args.actor.now c.index.result.now c.requires.stage c.requires.place
    (omega (arith, c.requires.last, c.args.actor.now.words.held.ok.0)) c.index.ensures c.requires.ties

pub returns : goal.returns
returns g c =
    let one : length c.args.actor.now.words.held.items ≡ 1 = omega (arith, c.requires.last, c.args.actor.now.words.held.ok.0) in
    release_heard c.steps_as_worlds.ensures c.turns_keep_own.ensures.words c.args.table.now c.args.seat.now c.store_lock.new.seat
    c.args.actor.now c.finish_commit.new.self c.release-told.new.self c.release-told.result c.finish_commit.result c.index.result.now
    c.args.bases.now c.requires.stage c.requires.place one c.index.ensures c.requires.small c.requires.ties c.requires.own
    c.store_lock.ensures c.release-told.ensures.actor c.release-told.ensures.answer c.release-told.ensures.keeps.fits
    c.finish_commit.ensures.does (c.finish_commit.ensures.keeps (laid_in c.args.table.now)).running c.finish_commit.ensures.leaves
