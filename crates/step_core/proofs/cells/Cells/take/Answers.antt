use Rattle.std.proofs.Common.{refl}
use Rattle.step_core.specs.declared.actor.Place.TheVariants.{Broken}
use Rattle.step_core.proofs.CellMoves.{placed, found, place_fits, takes, loses}
use Rattle.step_core.proofs.cells.Cells.take.Goals as goal

pub returns-then-word-version-clause-steps : goal.returns-then-word-version-clause-steps
returns-then-word-version-clause-steps c =
    let inside = (place_fits c.args.actor.now _ _ c.requires.place c.requires.fits).0 in
    takes c.args.self.now c.args.actor.now c.take.new.self c.args.location c.args.version c.args.i c.index-word.result.now
    c.requires.place inside (found c.args.self.now.locks.items c.args.location c.index-word.result.now inside c.index-word.ensures)
    c.if-word-version.true c.take.ensures.actor

pub returns-else-word-version-clause-steps : goal.returns-else-word-version-clause-steps
returns-else-word-version-clause-steps c =
    let inside = (place_fits c.args.actor.now _ _ c.requires.place c.requires.fits).0 in
    loses c.args.self.now c.args.actor.now (placed c.args.actor.now Broken) c.args.location c.args.version c.args.i c.index-word.result.now
    c.requires.place (found c.args.self.now.locks.items c.args.location c.index-word.result.now inside c.index-word.ensures)
    c.if-word-version.false refl
