use Rattle.step_core.proofs.CellMoves.{begins}
use Rattle.step_core.proofs.cells.Cells.begin.Goals as goal

pub returns-clause-steps : goal.returns-clause-steps
returns-clause-steps c = begins c.args.self.now c.args.actor.now c.begin.new.self c.begin.result c.requires.place c.begin.ensures.actor
    c.begin.ensures.answer
