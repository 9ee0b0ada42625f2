use Rattle.std.proofs.Common.{arith}
use Rattle.step_core.proofs.CellMoves.{location_is, location_below, value_is, stores}
use Rattle.step_core.proofs.cells.Cells.store.Goals as goal

pub returns-clause-steps : goal.returns-clause-steps
returns-clause-steps c =
    let es = c.args.actor.now.writes.entries in
    let e = c.write_at-location.result in
    let low = location_below _ es c.args.i e c.requires.fits.writes c.requires.inside c.write_at-location.ensures in
    stores c.args.self.now c.args.actor.now c.store-answer.new.self _ c.args.i e.0 e.1 c.requires.place c.requires.inside
    (location_is es c.args.i e c.requires.inside c.write_at-location.ensures) (omega (arith, low, c.requires.same))
    (value_is es c.args.i e c.requires.fits.writes_rise c.requires.inside c.write_at-location.ensures)
    c.store-answer.ensures.actor c.store-answer.ensures.answer
