use Rattle.tx_actor.proofs.ActorBoundsLemmas.{keeps_from}
use Rattle.tx_actor.specs.declared.actor.Stage.TheVariants as stage
use Rattle.std.proofs.Common.{Some, refl}
use Rattle.tx_actor.proofs.CopiesByStageLemmas.{copies_idle}
use Rattle.tx_actor.specs.Running.{at}
use Rattle.tx_actor.proofs.actor.TxActor.abort_for.Goals as goal

pub returns-clause-does : goal.returns-clause-does
returns-clause-does g c a w s = c.start_cancel.ensures.does a w s

pub returns-clause-keeps : goal.returns-clause-keeps
returns-clause-keeps g c v =
    keeps_from v c.args.self.now (record c.args.self.now { cause = Some c.args.cause }) c.start_cancel.new.self stage.Idle stage.Idle refl
    (c.start_cancel.ensures.keeps v) (λ n h. tt) (λ z. tt)

pub returns-clause-leaves : goal.returns-clause-leaves
returns-clause-leaves g c =
    copies_idle (at c.args.self.now stage.Idle)
    (record c.args.self.now { cause = Some c.args.cause }) c.start_cancel.new.self c.start_cancel.ensures.leaves
