use Rattle.tx_actor.proofs.ActorBoundsLemmas.{keeps_from}
use Rattle.tx_actor.specs.declared.actor.Stage.TheVariants as stage
use Rattle.std.proofs.Common.{None, refl}
use Rattle.tx_actor.proofs.actor.TxActor.request_abort.Goals as goal

pub returns-clause-keeps : goal.returns-clause-keeps
returns-clause-keeps g c v =
    keeps_from v c.args.self.now (record c.args.self.now { cause = None }) c.start_cancel.new.self c.args.self.now.stage stage.Idle refl
    (c.start_cancel.ensures.keeps v) (λ n h. tt) (λ z. tt)
