use Rattle.step_core.proofs.CellMoves.{found, location_is, location_below, checks}
use Rattle.step_core.proofs.cells.Cells.check.Goals as goal

pub returns-clause-steps : goal.returns-clause-steps
returns-clause-steps c =
    let es = c.args.actor.now.reads.entries in
    let e = c.read_at-location.result in
    checks c.args.self.now c.args.actor.now c.check.new.self c.check.result c.args.i e.0 c.index-word.result.now
    c.requires.place c.requires.inside (location_is es c.args.i e c.requires.inside c.read_at-location.ensures)
    (found c.args.self.now.locks.items e.0 c.index-word.result.now
    (location_below _ es c.args.i e c.requires.fits.reads c.requires.inside c.read_at-location.ensures) c.index-word.ensures)
    c.check.ensures.actor c.check.ensures.answer
