use Rattle.std.proofs.Common.{◌<◌, length, refl, arith}
use Rattle.step_core.proofs.CellMoves.{entry_first, held_below, releases}
use Rattle.step_core.proofs.cells.Cells.release.Goals as goal

pub returns-clause-steps : goal.returns-clause-steps
returns-clause-steps c =
    let es = c.args.actor.now.held.items in
    let e = c.index.result.now in
    let some : 0 < length es = omega (arith, c.requires.held, c.args.actor.now.held.ok.0) in
    releases c.args.self.now c.args.actor.now c.release-answer.new.self _ e _ c.requires.place
    (entry_first es e some c.index.ensures) (held_below _ es e c.requires.fits.held some c.index.ensures) refl
    c.release-answer.ensures.actor c.release-answer.ensures.answer
