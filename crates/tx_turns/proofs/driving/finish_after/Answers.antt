use Rattle.std.proofs.Common.{false, true}
use Rattle.shared_table.specs.Seated.{opening_of}
use Rattle.tx_turns.proofs.RestLemmas.{answered_own}
use Rattle.tx_turns.proofs.StraightLemmas.{told_so}
use Rattle.tx_turns.proofs.driving.finish_after.Goals as goal

pub returns-then-not-quiet-clause-leads : goal.returns-then-not-quiet-clause-leads
returns-then-not-quiet-clause-leads g c = λ s h.
    told_so (opening_of c.args.table.now) s c.args.seat.now c.args.quiet false c.args.said c.args.made c.if-not-quiet.true h

pub returns-then-not-quiet-clause-own : goal.returns-then-not-quiet-clause-own
returns-then-not-quiet-clause-own g c =
    answered_own c.args.table.now c.requires.come.0 c.args.seat.now c.args.actor.now c.args.bases.now.items c.args.said c.args.made
    (c.requires.answered c.if-not-quiet.true)
    (told_so (opening_of c.args.table.now) c.requires.come.0 c.args.seat.now c.args.quiet false c.args.said c.args.made
    c.if-not-quiet.true c.requires.come.1)
    c.requires.ties c.requires.own

pub finish_from-requires-clause-come : goal.finish_from-requires-clause-come
finish_from-requires-clause-come g c = (
  c.requires.come.0,
  told_so (opening_of c.args.table.now) c.requires.come.0 c.args.seat.now c.args.quiet true c.args.said c.args.made c.if-not-quiet.false
      c.requires.come.1,
)

pub returns-clause-leads : goal.returns-clause-leads
returns-clause-leads g c = λ s h.
    c.finish_from.ensures.leads s
    (told_so (opening_of c.args.table.now) s c.args.seat.now c.args.quiet true c.args.said c.args.made c.if-not-quiet.false h)
