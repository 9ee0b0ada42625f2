use Rattle.step_core.proofs.CellMoves.{found, looks}
use Rattle.step_core.proofs.cells.Cells.look.Goals as goal

pub returns-clause-steps : goal.returns-clause-steps
returns-clause-steps c = looks c.args.self.now c.args.actor.now c.look.new.self c.look.result c.args.location c.index-word.result.now
    c.requires.place (found c.args.self.now.locks.items c.args.location c.index-word.result.now c.requires.inside c.index-word.ensures)
    c.look.ensures.actor c.look.ensures.answer
