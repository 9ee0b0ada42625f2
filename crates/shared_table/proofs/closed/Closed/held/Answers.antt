use Rattle.shared_table.specs.Ends.{homes_of}
use Rattle.shared_table.proofs.Left.{held_grow}
use Rattle.shared_table.proofs.closed.Closed.held.Goals as goal

pub loop-k-preserved : goal.loop-k-preserved
loop-k-preserved g c =
    held_grow (homes_of c.args.self.now) c.loop-k.k c.base_at.result.now c.loop-k.held.items c.push.new.self.items
    c.in_ok-held-2.field-0 c.base_at.ensures c.loop-k.invariant c.in_ok-held-2.ensures c.in_ok-push.ensures.items
