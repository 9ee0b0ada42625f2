use Rattle.tx_actor.proofs.LoadBoundsLemmas.{heard_stays}
use Rattle.std.proofs.Common.{subst, sym}
use Rattle.actor_parts.specs.Dispatch.{shown_notice}
use Rattle.actor_parts.specs.declared.notice.WordNotice.{WordNotice}
use Rattle.tx_actor.specs.ActorBounds.{KeepsHeard}
use Rattle.tx_actor.specs.Running.{at}
use Rattle.tx_actor.specs.declared.actor.Stage.TheVariants as stage
use Rattle.tx_actor.specs.CopiesByStage.{HasLoaded}
use Rattle.tx_actor.proofs.CallStageLemmas.{else_loaded}
use Rattle.tx_actor.proofs.actor.TxActor.on_loaded.Goals as goal

pub returns-in-Number-clause-keeps : goal.returns-in-Number-clause-keeps
returns-in-Number-clause-keeps g c v =
    subst (λ (h : WordNotice). KeepsHeard v (at c.args.self.now (stage.Loading c.args.call c.args.left)) c.on_found.new.self
    (shown_notice h))
    (sym c.in-Number.is) (c.on_found.ensures.keeps v)

pub returns-in-Moved-clause-keeps : goal.returns-in-Moved-clause-keeps
returns-in-Moved-clause-keeps g c v =
    subst (λ (h : WordNotice). KeepsHeard v (at c.args.self.now (stage.Loading c.args.call c.args.left)) c.on_moved.new.self
    (shown_notice h))
    (sym c.in-Moved.is) (c.on_moved.ensures.keeps v)

pub returns-in_default-clause-keeps : goal.returns-in_default-clause-keeps
returns-in_default-clause-keeps g c v =
    heard_stays v c.args.self.now c.unchanged.new.self c.args.call c.args.left c.args.heard c.unchanged.ensures.stage
    c.in_default.not-Number
    c.in_default.not-Moved

pub returns-in-Number-clause-goes : goal.returns-in-Number-clause-goes
returns-in-Number-clause-goes g c =
    let r = at c.args.self.now (stage.Loading c.args.call c.args.left) in
    subst (λ (h : WordNotice). HasLoaded r c.on_found.new.self c.on_found.result r.stage (shown_notice h)) (sym c.in-Number.is)
    c.on_found.ensures.goes

pub returns-in-Moved-clause-goes : goal.returns-in-Moved-clause-goes
returns-in-Moved-clause-goes g c =
    let r = at c.args.self.now (stage.Loading c.args.call c.args.left) in
    subst (λ (h : WordNotice). HasLoaded r c.on_moved.new.self c.on_moved.result r.stage (shown_notice h)) (sym c.in-Moved.is)
    c.on_moved.ensures.goes

pub returns-in_default-clause-goes : goal.returns-in_default-clause-goes
returns-in_default-clause-goes g c =
    else_loaded (at c.args.self.now (stage.Loading c.args.call c.args.left)) c.unchanged.new.self c.unchanged.result c.args.call c.args.left
    c.args.heard c.in_default.not-Number c.in_default.not-Moved (c.unchanged.ensures.stage, c.unchanged.ensures.told)
