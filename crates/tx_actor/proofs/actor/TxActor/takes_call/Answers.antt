use Rattle.std.proofs.Common.{ℕ, Option, Some, refl, sym, ap, subst}
use Rattle.tx_actor.specs.Running.{at}
use Rattle.tx_actor.specs.Copying.{CanCopy}
use Rattle.tx_actor.specs.ActorBounds.{KeepsIn}
use Rattle.tx_actor.specs.Taking.{AreTaken}
use Rattle.tx_actor.specs.declared.actor.CollectionCall.{CollectionCall}
use Rattle.tx_actor.specs.declared.actor.Stage.TheVariants as stage
use Rattle.tx_actor.specs.declared.actor.TxActor.{TxActor}
use Rattle.tx_actor.proofs.CopyAtGateLemmas.{keeps_starving}
use Rattle.tx_actor.proofs.CopiesByStageLemmas.{copies_idle}
use Rattle.tx_actor.proofs.actor.TxActor.takes_call.Goals as goal

pub takes_key-requires : goal.takes_key-requires
takes_key-requires g c =
    subst (λ (k : CollectionCall g.row.V.Denot). CanCopy c.args.blocks.now c.args.self.now c.args.base.now k) (sym c.get.ensures) c.requires

pub returns-in-Ok-Some-clause-ok : goal.returns-in-Ok-Some-clause-ok
returns-in-Ok-Some-clause-ok g c =
    let v = c.args.blocks.now in
    let r = c.args.self.now in
    let u = c.takes_key.new.self in
    let base = c.args.base.now in (
      refl,
      subst (λ (k : CollectionCall g.row.V.Denot). AreTaken v r u base k (Some c.in-Ok-Some.place)) c.get.ensures
          (subst (λ (i : Option ℕ). AreTaken v r u base c.get.result.now i) c.in-Ok-Some.field-0-is c.in-Ok-Some.ensures.ok),
    )

pub returns-in-Ok-None-clause-ok : goal.returns-in-Ok-None-clause-ok
returns-in-Ok-None-clause-ok g c =
    ap (λ (z : TxActor g.row.V.Denot). at z (stage.Copying c.args.asked))
    (subst (λ (i : Option ℕ). AreTaken c.args.blocks.now c.args.self.now c.takes_key.new.self c.args.base.now c.get.result.now i)
    c.in-Ok-None.field-0-is c.in-Ok-None.ensures.ok)

pub returns-in-Err-clause-keeps : goal.returns-in-Err-clause-keeps
returns-in-Err-clause-keeps g c =
    let v = c.args.blocks.now in
    let u = c.takes_key.new.self in
    let n = c.starves_copying.new.self in
    keeps_starving v c.args.self.now u n c.args.asked c.requires.rests c.in-Err.ensures.err
    (subst (λ (k : CollectionCall g.row.V.Denot). KeepsIn v (at u (stage.ReturningOne k.collection)) n) c.get-in-Err.ensures
    (c.starves_copying.ensures.keeps v))

pub returns-in-Err-clause-leaves : goal.returns-in-Err-clause-leaves
returns-in-Err-clause-leaves g c =
    copies_idle (at c.args.self.now (stage.Copying c.args.asked)) c.takes_key.new.self c.starves_copying.new.self
    c.starves_copying.ensures.leaves
