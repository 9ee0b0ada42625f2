use Rattle.std.proofs.Common.{sym, subst}
use Rattle.shared_table.specs.Seated.{acts, opening_of}
use Rattle.tx_turns.specs.Bases.{gates_at}
use Rattle.tx_turns.specs.Own.{HasOwn}
use Rattle.tx_turns.proofs.HomeLemmas.{bases_count, own_alike, refused_commit}
use Rattle.tx_turns.proofs.WordLemmas.{first_own}
use Rattle.tx_turns.proofs.homes.commit.Goals as goal

pub prepare-requires-clause-count : goal.prepare-requires-clause-count
prepare-requires-clause-count g c =
    let o = opening_of c.args.table.now in
    bases_count o (acts o c.args.seat.now) (gates_at c.args.actor.now.stage) c.args.bases.now.items c.requires.own.bases

pub returns-clause-own : goal.returns-clause-own
returns-clause-own g c =
    let t = c.args.table.now in
    let s = c.args.seat.now in
    let r = c.args.actor.now in
    let bs = c.prepare.new.bases.items in
    first_own c.steps_as_worlds.ensures c.events_keep_copies.ensures.steps c.copies_by_stage.ensures.others t s c.commit.new.seat r
    c.commit.new.actor c.in_ok-done.done.0 bs c.requires.ties
    (own_alike t s r c.args.bases.now.items bs c.requires.due c.requires.own c.prepare.ensures.alike c.copies_by_stage.ensures.steps)
    c.in_ok-done.ensures.turned c.commit.ensures.ties c.in_ok-done.ensures.leaves c.requires.due c.in_ok-prepare.ensures.prepared

pub returns-in_err-prepare-clause-own : goal.returns-in_err-prepare-clause-own
returns-in_err-prepare-clause-own g c =
    own_alike c.args.table.now c.args.seat.now c.args.actor.now c.args.bases.now.items c.prepare.new.bases.items c.requires.due
    c.requires.own
    c.prepare.ensures.alike c.copies_by_stage.ensures.steps

pub returns-in_err-done-clause-own : goal.returns-in_err-done-clause-own
returns-in_err-done-clause-own g c =
    subst (λ s. HasOwn c.args.table.now s c.commit.new.actor c.prepare.new.bases.items) (sym c.in_err-done.ensures.seat)
    (refused_commit c.copies_by_stage.ensures.steps c.args.table.now c.args.seat.now c.args.actor.now c.commit.new.actor
    c.args.bases.now.items c.prepare.new.bases.items c.requires.due c.requires.own c.prepare.ensures.alike c.in_err-done.ensures.rest)
