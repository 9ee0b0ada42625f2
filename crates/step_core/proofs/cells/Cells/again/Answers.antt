use Rattle.step_core.proofs.CellMoves.{found, looks_again, place_fits}
use Rattle.step_core.proofs.cells.Cells.again.Goals as goal

pub returns-clause-steps : goal.returns-clause-steps
returns-clause-steps c = looks_again c.args.self.now c.args.actor.now c.again.new.self c.again.result c.args.location c.args.version
    c.args.value c.index-word.result.now c.requires.place
    (found c.args.self.now.locks.items c.args.location c.index-word.result.now
    (place_fits c.args.actor.now _ _ c.requires.place c.requires.fits).0 c.index-word.ensures)
    c.again.ensures.actor c.again.ensures.answer
