use Rattle.std.proofs.Common.{refl}
use Rattle.step_core.specs.declared.actor.Place.TheVariants.{Idle}
use Rattle.step_core.proofs.CellMoves.{placed, leaves}
use Rattle.step_core.proofs.cells.Cells.leave.Goals as goal

pub returns-clause-steps : goal.returns-clause-steps
returns-clause-steps c = leaves c.args.self.now c.args.actor.now (placed c.args.actor.now Idle) c.requires.place refl
