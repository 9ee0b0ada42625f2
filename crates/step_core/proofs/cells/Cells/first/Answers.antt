use Rattle.std.proofs.Common.{arith}
use Rattle.step_core.proofs.CellMoves.{entry_first, location_below, commits_first}
use Rattle.step_core.proofs.cells.Cells.first.Goals as goal

pub returns-clause-steps : goal.returns-clause-steps
returns-clause-steps c =
    let es = c.args.actor.now.writes.entries in
    let e = c.write_at-entry.result in
    let low = location_below _ es 0 e c.requires.fits.writes c.requires.some c.write_at-entry.ensures in
    commits_first c.args.self.now c.args.actor.now c.first-answer.new.self _ e c.requires.place
    (entry_first es e c.requires.some c.write_at-entry.ensures) (omega (arith, low, c.requires.same))
    c.first-answer.ensures.actor c.first-answer.ensures.answer
