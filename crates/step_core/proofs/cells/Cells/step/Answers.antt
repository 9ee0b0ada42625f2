use Rattle.std.proofs.Common.{arith}
use Rattle.step_core.proofs.CellMoves.{checked_all, stored_all}
use Rattle.step_core.proofs.cells.Cells.step.Goals as goal

pub returns-else-i-len-2-clause-steps : goal.returns-else-i-len-2-clause-steps
returns-else-i-len-2-clause-steps c = checked_all c.args.self.now c.args.actor.now c.in-Check.i c.in-Check.is
    (omega (arith, c.if-i-len-2.false, c.len-in-Check.ensures))

pub returns-else-i-len-3-clause-steps : goal.returns-else-i-len-3-clause-steps
returns-else-i-len-3-clause-steps c = stored_all c.args.self.now c.args.actor.now c.in-Store.i c.in-Store.is
    (omega (arith, c.if-i-len-3.false, c.len-in-Store.ensures))
