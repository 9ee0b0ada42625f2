use Rattle.std.proofs.Common.{add-one, arith}
use Rattle.actor_parts.proofs.CopyListLemmas.{none_here}
use Rattle.actor_parts.proofs.footprints.position_of.Goals as goal

pub loop-i-preserved : goal.loop-i-preserved
loop-i-preserved g c =
    let lt = c.loop-i-test.true in
    let more =
    none_here c.args.copies.now c.loop-i.i c.args.collection c.index-copies-i.result lt c.index-copies-i.is c.if-copies-i.false
    c.loop-i.invariant.1 in
    (omega arith, rw add-one more)
