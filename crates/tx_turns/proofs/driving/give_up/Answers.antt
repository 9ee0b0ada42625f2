use Rattle.std.proofs.Common.{None, Option, subst}
use Rattle.seq_model.specs.declared.record.Record.{Record}
use Rattle.shared_table.specs.Seated.{opening_of}
use Rattle.tx_turns.proofs.DrivenLemmas.{driven_first}
use Rattle.tx_turns.proofs.GivenUpLemmas.{ends_never, none_ends, under_ends}
use Rattle.tx_turns.specs.Driven.{Driven, seat_in}
use Rattle.tx_turns.proofs.driving.give_up.Goals as goal

pub advance-requires-clause-come : goal.advance-requires-clause-come
advance-requires-clause-come g c =
    let o = opening_of c.args.table.now in
    (c.args.seat.now, driven_first o c.args.seat.now (under_ends (seat_in o c.args.seat.now) c.requires.ends))

pub unreachable-requires : goal.unreachable-requires
unreachable-requires g c =
    let o = opening_of c.args.table.now in
    ends_never o c.args.seat.now c.advance.new.seat
    (c.in-Err.ensures.wants c.args.seat.now (driven_first o c.args.seat.now (under_ends (seat_in o c.args.seat.now) c.requires.ends)))
    c.requires.ends

pub returns-clause-driven : goal.returns-clause-driven
returns-clause-driven g c =
    let o = opening_of c.args.table.now in
    let driven = c.in-Ok.ensures.leads c.args.seat.now
    (driven_first o c.args.seat.now (under_ends (seat_in o c.args.seat.now) c.requires.ends)) in
    subst (λ (d : Option (Record _)). Driven o c.args.seat.now c.advance.new.seat c.advance.new.said d)
    (none_ends o c.args.seat.now c.advance.new.seat c.advance.new.said _ c.requires.ends driven c.in-Ok.ensures.answered).0 driven
