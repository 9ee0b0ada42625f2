use Rattle.vacation_core.proofs.OrderLemmas.{SoFar}
use Rattle.vacation_core.proofs.order.run_all.Given as goal

abbrev pub invariant-loop-action : goal.invariant-loop-action
invariant-loop-action g l = SoFar l.actions l.action-index l.fn.world.parts l.world.parts
