use Rattle.std.proofs.Common.{◌∙◌}
use Rattle.client_sessions.specs.declared.entry.Entry.TheVariants as entry
use Rattle.client_sessions.proofs.HoldingLemmas.{put_none, put_one}
use Rattle.client_sessions.proofs.state.tickets_held.Goals as goal

pub loop-number-init : goal.loop-number-init
loop-number-init c =
    put_none entry.Ticket _ _ _ c.new-held.ensures (c.into_iter-number-iterator.ensures.into_iter_gives ∙ c.tickets-number-items.ensures)

pub loop-number-preserved : goal.loop-number-preserved
loop-number-preserved c =
    put_one entry.Ticket _ _ _ c.in-Some.number.now c.in-Some.ticket.now _ _ c.loop-number.invariant c.in-Some.ensures.steps
    c.in_ok-insert.ensures.ok

pub loop-number-preserved-in_ok-insert : goal.loop-number-preserved-in_ok-insert
loop-number-preserved-in_ok-insert c =
    put_one entry.Ticket _ _ _ c.in-Some.number.now c.in-Some.ticket.now _ _ c.loop-number.invariant c.in-Some.ensures.steps
    c.in_ok-insert.ensures.ok

pub loop-number-preserved-in_ok-insert-2 : goal.loop-number-preserved-in_ok-insert-2
loop-number-preserved-in_ok-insert-2 c =
    put_one entry.Ticket _ _ _ c.in-Some.number.now c.in-Some.ticket.now _ _ c.loop-number.invariant c.in-Some.ensures.steps
    c.in_ok-insert.ensures.ok
