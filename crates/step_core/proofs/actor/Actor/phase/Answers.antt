use Rattle.std.proofs.Common.{arith}
use Rattle.step_core.proofs.Phases.{checking, checked, storing, stored}
use Rattle.step_core.proofs.actor.Actor.phase.Goals as goal

pub returns-then-i-len : goal.returns-then-i-len
returns-then-i-len c = checking c.args.self.now c.in-Check.i c.in-Check.is (omega (arith, c.if-i-len.true, c.len-in-Check.ensures))

pub returns-else-i-len : goal.returns-else-i-len
returns-else-i-len c = checked c.args.self.now c.in-Check.i c.in-Check.is (omega (arith, c.if-i-len.false, c.len-in-Check.ensures))

pub returns-then-i-len-2 : goal.returns-then-i-len-2
returns-then-i-len-2 c = storing c.args.self.now c.in-Store.i c.in-Store.is (omega (arith, c.if-i-len-2.true, c.len-in-Store.ensures))

pub returns-else-i-len-2 : goal.returns-else-i-len-2
returns-else-i-len-2 c = stored c.args.self.now c.in-Store.i c.in-Store.is (omega (arith, c.if-i-len-2.false, c.len-in-Store.ensures))
