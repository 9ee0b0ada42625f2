use Rattle.std.proofs.Common.{IfOk, OnErr, sym, subst, ◌∙◌}
use Rattle.tx_actor.specs.Copying.{HasTaken, HasTakenAt, StepsOnAt}
use Rattle.tx_actor.specs.Dispatch.{Starves}
use Rattle.tx_actor.specs.CopiesByStage.{KeepsCopies}
use Rattle.tx_actor.specs.ActorBounds.{KeepsIn}
use Rattle.tx_actor.specs.Running.{at}
use Rattle.tx_actor.specs.declared.actor.Stage.{Stage}
use Rattle.tx_actor.specs.declared.actor.ActorNotice.TheVariants.{Quiet}
use Rattle.tx_actor.proofs.actor.TxActor.copy_at_gate.Goals as goal

pub returns-in-Copying-clause-ok : goal.returns-in-Copying-clause-ok
returns-in-Copying-clause-ok g c =
    let r = c.args.self.now in
    let n = c.on_copied.new.self in
    subst (λ (s : Stage g.row.V.Denot). IfOk c.on_copied.result (λ told. StepsOnAt c.args.blocks.now (at r s) n told c.args.base.now s))
    (sym (sym c.replace-stage.ensures.value ∙ c.in-Copying.is)) c.on_copied.ensures.ok

pub returns-in-Copying-clause-err : goal.returns-in-Copying-clause-err
returns-in-Copying-clause-err g c =
    let r = c.args.self.now in
    let n = c.on_copied.new.self in
    subst (λ (s : Stage g.row.V.Denot). OnErr c.on_copied.result (Starves (at r s) n Quiet))
    (sym (sym c.replace-stage.ensures.value ∙ c.in-Copying.is)) c.on_copied.ensures.err

pub returns-in-Copying-clause-keeps : goal.returns-in-Copying-clause-keeps
returns-in-Copying-clause-keeps g c noreads =
    let r = c.args.self.now in
    subst (λ (s : Stage g.row.V.Denot). KeepsIn c.args.blocks.now (at r s) c.on_copied.new.self)
    (sym (sym c.replace-stage.ensures.value ∙ c.in-Copying.is)) (c.on_copied.ensures.keeps noreads)

pub returns-in-Copying-clause-copies : goal.returns-in-Copying-clause-copies
returns-in-Copying-clause-copies g c =
    let r = c.args.self.now in
    let n = c.on_copied.new.self in
    let v = c.args.blocks.now in
    let base = c.args.base.now in
    subst (λ (s : Stage g.row.V.Denot). IfOk c.on_copied.result (λ told. HasTakenAt v (at r s) n told base s))
    (sym (sym c.replace-stage.ensures.value ∙ c.in-Copying.is))
    (subst (λ (s : Stage g.row.V.Denot). IfOk c.on_copied.result (λ told. HasTaken v (at r s) n told base c.in-Copying.asked))
    c.replace-stage.ensures.after c.on_copied.ensures.copies)

pub returns-in-Copying-clause-leaves : goal.returns-in-Copying-clause-leaves
returns-in-Copying-clause-leaves g c =
    let r = c.args.self.now in
    let n = c.on_copied.new.self in
    subst (λ (s : Stage g.row.V.Denot). OnErr c.on_copied.result (KeepsCopies (at r s) n))
    (sym (sym c.replace-stage.ensures.value ∙ c.in-Copying.is)) c.on_copied.ensures.leaves
