use Rattle.std.proofs.Common.{inl, subst}
use Rattle.shared_table.specs.declared.seat.Seat.{Seat}
use Rattle.shared_table.specs.Seated.{opening_of}
use Rattle.tx_turns.specs.RequestStep.{Starved}
use Rattle.tx_turns.proofs.turns.try_next.Goals as goal

pub returns-in-Err-clause-own : goal.returns-in-Err-clause-own
returns-in-Err-clause-own g c =
    c.turns_keep_own.ensures.starves c.args.table.now c.try_gate.new.seat c.starve.new.seat c.try_gate.new.actor c.starve.new.actor
    c.starve.result c.try_gate.new.bases.items c.try_gate.ensures.ties c.try_gate.ensures.own c.starve.ensures.starved
    c.starve.ensures.ties c.starve.ensures.leaves

pub returns-in-Err-clause-starved : goal.returns-in-Err-clause-starved
returns-in-Err-clause-starved g c =
    let there = subst (λ (s : Seat g.row.V.Denot). Starved (opening_of c.args.table.now) s c.starve.new.seat c.starve.result)
    c.in-Err.ensures.seat c.starve.ensures.starved in
    (c.starve.result, inl there)
