use Rattle.shared_table.specs.Seated.{opening_of}
use Rattle.tx_turns.proofs.DrivenLemmas.{driven_first}
use Rattle.tx_turns.proofs.GivenUpLemmas.{given_up, stopped_ends}
use Rattle.tx_turns.proofs.RestLemmas.{answered_own}
use Rattle.std.proofs.Common.{None}
use Rattle.tx_turns.proofs.driving.commit_through.Goals as goal

pub finish_after-requires-clause-come : goal.finish_after-requires-clause-come
finish_after-requires-clause-come g c =
    let s = c.args.seat.now in
    (s, c.in-Ok.ensures.leads s (driven_first (opening_of c.args.table.now) s c.requires.under))

pub returns-in-Ok-clause-driven : goal.returns-in-Ok-clause-driven
returns-in-Ok-clause-driven g c =
    let s = c.args.seat.now in
    c.finish_after.ensures.leads s (c.in-Ok.ensures.leads s (driven_first (opening_of c.args.table.now) s c.requires.under))

-- an allocation failed
pub give_up-requires-clause-ends : goal.give_up-requires-clause-ends
give_up-requires-clause-ends g c =
    let o = opening_of c.args.table.now in
    let s = c.args.seat.now in
    stopped_ends o s c.commit_on.new.seat (c.in-Err.ensures.wants s (driven_first o s c.requires.under))

pub returns-in-Err-clause-driven : goal.returns-in-Err-clause-driven
returns-in-Err-clause-driven g c =
    let o = opening_of c.args.table.now in
    let s = c.args.seat.now in
    given_up o s c.commit_on.new.seat (c.in-Err.ensures.wants s (driven_first o s c.requires.under)) c.give_up.new.seat
    c.give_up.result c.give_up.ensures.answered c.give_up.ensures.driven

pub returns-in-Err-clause-own : goal.returns-in-Err-clause-own
returns-in-Err-clause-own g c =
    answered_own c.args.table.now c.commit_on.new.seat c.give_up.new.seat c.give_up.new.actor c.give_up.new.bases.items c.give_up.result
    None c.give_up.ensures.answered c.give_up.ensures.driven c.give_up.ensures.ties c.give_up.ensures.own
