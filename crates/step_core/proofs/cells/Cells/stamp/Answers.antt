use Rattle.std.proofs.Common.{refl}
use Rattle.step_core.proofs.CellMoves.{stamps}
use Rattle.step_core.proofs.cells.Cells.stamp.Goals as goal

pub returns-clause-steps : goal.returns-clause-steps
returns-clause-steps c = stamps c.args.self.now _ c.args.actor.now c.stamp.new.self c.stamp.result c.args.i c.requires.place
    c.requires.outside refl c.stamp.ensures.actor c.stamp.ensures.answer
