use Rattle.std.proofs.Common.{refl}
use Rattle.step_core.specs.declared.actor.Place.TheVariants.{Idle}
use Rattle.step_core.proofs.CellMoves.{placed, closes}
use Rattle.step_core.proofs.cells.Cells.close.Goals as goal

pub returns-clause-steps : goal.returns-clause-steps
returns-clause-steps c = closes c.args.self.now c.args.actor.now (placed c.args.actor.now Idle) c.requires.place refl
