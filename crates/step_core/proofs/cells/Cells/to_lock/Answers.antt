use Rattle.step_core.proofs.CellMoves.{found, location_is, location_below, looks_to_lock}
use Rattle.step_core.proofs.cells.Cells.to_lock.Goals as goal

pub returns-clause-steps : goal.returns-clause-steps
returns-clause-steps c =
    let es = c.args.actor.now.writes.entries in
    let e = c.write_at-location.result in
    looks_to_lock c.args.self.now c.args.actor.now c.to_lock.new.self c.to_lock.result c.args.i e.0 c.index-word.result.now
    c.requires.place c.requires.inside (location_is es c.args.i e c.requires.inside c.write_at-location.ensures)
    (found c.args.self.now.locks.items e.0 c.index-word.result.now
    (location_below _ es c.args.i e c.requires.fits.writes c.requires.inside c.write_at-location.ensures) c.index-word.ensures)
    c.to_lock.ensures.actor c.to_lock.ensures.answer
