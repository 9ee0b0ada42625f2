use Rattle.std.proofs.Common.{IfOk, OnErr, sym, subst, ◌∙◌}
use Rattle.tx_actor.specs.Dispatch.{Starves}
use Rattle.tx_actor.specs.CopiesByStage.{KeepsCopies}
use Rattle.tx_actor.specs.ActorBounds.{KeepsIn}
use Rattle.tx_actor.specs.Running.{at}
use Rattle.tx_actor.specs.Taking.{AreTakenAt, AreTakenFor}
use Rattle.tx_actor.specs.declared.actor.Stage.{Stage}
use Rattle.tx_actor.specs.declared.actor.ActorNotice.TheVariants.{Quiet}
use Rattle.tx_actor.proofs.actor.TxActor.takes.Goals as goal

pub returns-in-Copying-clause-ok : goal.returns-in-Copying-clause-ok
returns-in-Copying-clause-ok g c =
    let r = c.args.self.now in
    let n = c.takes_call.new.self in
    let v = c.args.blocks.now in
    let base = c.args.base.now in
    subst (λ (s : Stage g.row.V.Denot). IfOk c.takes_call.result (λ taken. AreTakenAt v (at r s) n base taken s))
    (sym (sym c.replace-stage.ensures.value ∙ c.in-Copying.is))
    (subst (λ (s : Stage g.row.V.Denot). IfOk c.takes_call.result (λ taken. AreTakenFor v (at r s) n base c.in-Copying.asked taken))
    c.replace-stage.ensures.after c.takes_call.ensures.ok)

pub returns-in-Copying-clause-err : goal.returns-in-Copying-clause-err
returns-in-Copying-clause-err g c =
    let r = c.args.self.now in
    let n = c.takes_call.new.self in
    subst (λ (s : Stage g.row.V.Denot). OnErr c.takes_call.result (Starves (at r s) n Quiet))
    (sym (sym c.replace-stage.ensures.value ∙ c.in-Copying.is)) c.takes_call.ensures.err

pub returns-in-Copying-clause-keeps : goal.returns-in-Copying-clause-keeps
returns-in-Copying-clause-keeps g c =
    let r = c.args.self.now in
    subst (λ (s : Stage g.row.V.Denot). OnErr c.takes_call.result (KeepsIn c.args.blocks.now (at r s) c.takes_call.new.self))
    (sym (sym c.replace-stage.ensures.value ∙ c.in-Copying.is)) c.takes_call.ensures.keeps

pub returns-in-Copying-clause-leaves : goal.returns-in-Copying-clause-leaves
returns-in-Copying-clause-leaves g c =
    let r = c.args.self.now in
    let n = c.takes_call.new.self in
    subst (λ (s : Stage g.row.V.Denot). OnErr c.takes_call.result (KeepsCopies (at r s) n))
    (sym (sym c.replace-stage.ensures.value ∙ c.in-Copying.is)) c.takes_call.ensures.leaves
