use Rattle.step_core.proofs.Openings.{all_zero}
use Rattle.step_core.proofs.machine.zeros.Goals as goal

pub returns-clause-zero : goal.returns-clause-zero
returns-clause-zero c = all_zero c.args.count c.vec.result c.vec.ensures.items_if_clones_equal
