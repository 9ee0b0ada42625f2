use Rattle.std.proofs.Common.{◌∙◌}
use Rattle.client_sessions.specs.declared.entry.Entry.TheVariants as entry
use Rattle.client_sessions.proofs.HoldingLemmas.{put_none, put_one}
use Rattle.client_sessions.proofs.state.items_held.Goals as goal

pub loop-id-init : goal.loop-id-init
loop-id-init c = put_none entry.Item _ _ _ c.new-held.ensures (c.into_iter-id-iterator.ensures.into_iter_gives ∙ c.items-id-items.ensures)

pub loop-id-preserved : goal.loop-id-preserved
loop-id-preserved c = put_one entry.Item _ _ _ c.in-Some.id.now c.in-Some.item.now _ _ c.loop-id.invariant c.in-Some.ensures.steps
    c.in_ok-insert.ensures.ok

pub loop-id-preserved-in_ok-insert : goal.loop-id-preserved-in_ok-insert
loop-id-preserved-in_ok-insert c =
    put_one entry.Item _ _ _ c.in-Some.id.now c.in-Some.item.now _ _ c.loop-id.invariant c.in-Some.ensures.steps c.in_ok-insert.ensures.ok

pub loop-id-preserved-in_ok-insert-2 : goal.loop-id-preserved-in_ok-insert-2
loop-id-preserved-in_ok-insert-2 c =
    put_one entry.Item _ _ _ c.in-Some.id.now c.in-Some.item.now _ _ c.loop-id.invariant c.in-Some.ensures.steps c.in_ok-insert.ensures.ok
