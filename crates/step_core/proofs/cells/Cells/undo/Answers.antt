use Rattle.std.proofs.Common.{◌<◌, length, refl, arith}
use Rattle.step_core.proofs.CellMoves.{entry_first, held_below, undoes}
use Rattle.step_core.proofs.cells.Cells.undo.Goals as goal

pub returns-clause-steps : goal.returns-clause-steps
returns-clause-steps c =
    let es = c.args.actor.now.held.items in
    let e = c.index-entry.result.now in
    let some : 0 < length es = omega (arith, c.requires.held, c.args.actor.now.held.ok.0) in
    undoes c.args.self.now c.args.actor.now c.undo-answer.new.self _ e _ c.requires.place
    (entry_first es e some c.index-entry.ensures) (held_below _ es e c.requires.fits.held some c.index-entry.ensures) refl
    c.undo-answer.ensures.actor c.undo-answer.ensures.answer
