use Rattle.std.proofs.Common.{Option, subst, sym}
use Rattle.seq_model.specs.declared.record.Record.{Record}
use Rattle.actor_parts.specs.declared.next.Next.{Next}
use Rattle.tx_actor.specs.declared.actor.ActorNotice.{ActorNotice}
use Rattle.shared_table.specs.Seated.{opening_of}
use Rattle.tx_turns.specs.Driven.{Driven, WantsMemory}
use Rattle.tx_turns.proofs.DrivenLemmas.{driven_on}
use Rattle.tx_turns.proofs.GivenUpLemmas.{stops_at}
use Rattle.tx_turns.proofs.commits.first_stored_on.Goals as goal

pub returns-in-Ok-clause-leads : goal.returns-in-Ok-clause-leads
returns-in-Ok-clause-leads g c = λ s h.
    subst (λ (z : ActorNotice _ × Option (Record _)). Driven (opening_of c.args.table.now) s c.store_next.new.seat z.0 z.1)
    (λ i. (c.report.ensures.told i, sym c.keep.ensures i))
    (driven_on c.args.table.now s c.args.seat.now c.store_next.new.seat c.args.actor.now c.in-Ok.told c.args.made.now c.requires.ties h
    c.in-Ok.ensures.turned c.in-Ok.receipt c.in-Ok.ensures.receipt)

pub returns-in-Err-clause-wants : goal.returns-in-Err-clause-wants
returns-in-Err-clause-wants g c = λ s h.
    stops_at c.args.table.now s c.args.seat.now c.store_next.new.seat c.args.actor.now c.in-Err.ensures.starved.0 c.args.made.now
    c.requires.ties h (subst (λ (k : Next). WantsMemory k) (sym (c.is_ready.ensures c.if-not-is_ready.false)) tt)
    c.in-Err.ensures.starved.1
