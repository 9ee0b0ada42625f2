use Rattle.std.proofs.Common.{inl, subst}
use Rattle.shared_table.specs.declared.seat.Seat.{Seat}
use Rattle.shared_table.specs.Seated.{actor, opening_of}
use Rattle.tx_turns.specs.RequestStep.{Starved}
use Rattle.tx_turns.proofs.NextLemmas.{makes_one}
use Rattle.tx_turns.proofs.turns.store_next.Goals as goal

pub returns-in-Ok-clause-receipt : goal.returns-in-Ok-clause-receipt
returns-in-Ok-clause-receipt g c =
    makes_one (actor c.args.seat.now) c.args.actor.now c.in-Ok.receipt c.args.actor.now.stage c.requires.due c.in-Ok.ensures.number
    c.in-Ok.ensures.writes c.in-Ok.ensures.calls

pub returns-in-Err-clause-own : goal.returns-in-Err-clause-own
returns-in-Err-clause-own g c =
    c.turns_keep_own.ensures.starves c.args.table.now c.commit.new.seat c.starve.new.seat c.commit.new.actor c.starve.new.actor
    c.starve.result c.commit.new.bases.items c.commit.ensures.ties c.commit.ensures.own c.starve.ensures.starved
    c.starve.ensures.ties c.starve.ensures.leaves

pub returns-in-Err-clause-starved : goal.returns-in-Err-clause-starved
returns-in-Err-clause-starved g c =
    let there = subst (λ (s : Seat g.row.V.Denot). Starved (opening_of c.args.table.now) s c.starve.new.seat c.starve.result)
    c.in-Err.ensures.seat c.starve.ensures.starved in
    (c.starve.result, inl there)
