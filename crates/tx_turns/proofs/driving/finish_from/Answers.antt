use Rattle.std.proofs.Common.{None}
use Rattle.shared_table.specs.Seated.{opening_of}
use Rattle.tx_turns.proofs.GivenUpLemmas.{given_up, stopped_ends}
use Rattle.tx_turns.proofs.RestLemmas.{answered_own}
use Rattle.tx_turns.proofs.driving.finish_from.Goals as goal

pub give_up-requires-clause-ends : goal.give_up-requires-clause-ends
give_up-requires-clause-ends g c =
    stopped_ends (opening_of c.args.table.now) c.requires.come.0 c.advance.new.seat
    (c.in-Err.ensures.wants c.requires.come.0 c.requires.come.1)

pub returns-in-Ok-clause-own : goal.returns-in-Ok-clause-own
returns-in-Ok-clause-own g c =
    answered_own c.args.table.now c.requires.come.0 c.advance.new.seat c.advance.new.actor c.advance.new.bases.items
    c.advance.new.said c.advance.new.kept c.in-Ok.ensures.answered (c.in-Ok.ensures.leads c.requires.come.0 c.requires.come.1)
    c.advance.ensures.ties c.advance.ensures.own

pub returns-in-Err-clause-leads : goal.returns-in-Err-clause-leads
returns-in-Err-clause-leads g c = λ s h.
    given_up (opening_of c.args.table.now) s c.advance.new.seat (c.in-Err.ensures.wants s h) c.give_up.new.seat c.give_up.result
    c.give_up.ensures.answered c.give_up.ensures.driven

pub returns-in-Err-clause-own : goal.returns-in-Err-clause-own
returns-in-Err-clause-own g c =
    answered_own c.args.table.now c.advance.new.seat c.give_up.new.seat c.give_up.new.actor c.give_up.new.bases.items c.give_up.result None
    c.give_up.ensures.answered c.give_up.ensures.driven c.give_up.ensures.ties c.give_up.ensures.own
