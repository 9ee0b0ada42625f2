use Rattle.std.proofs.Common.{refl}
use Rattle.tx_actor.specs.Running.{at, seat_of}
use Rattle.actor_parts.specs.Dispatch.{shown_notice}
use Rattle.tx_actor.specs.declared.actor.Stage.TheVariants as stage
use Rattle.tx_actor.proofs.DispatchLemmas.{heard_as, word_stays, begun_else}
use Rattle.tx_actor.proofs.ActorBoundsLemmas.{keeps_from, keeps_same}
use Rattle.tx_actor.proofs.CopiesByStageLemmas.{copies_idle, copies_same}
use Rattle.tx_actor.proofs.actor.TxActor.on_begun.Goals as goal

pub returns-in-Begun-clause-does : goal.returns-in-Begun-clause-does
returns-in-Begun-clause-does g c =
    heard_as (at c.args.self.now stage.Beginning) c.finish_begin.new.self c.finish_begin.result _ _ c.in-Begun.is
    (λ a w m s. c.finish_begin.ensures.does a w
    s.1)

pub returns-in-Exhausted-clause-does : goal.returns-in-Exhausted-clause-does
returns-in-Exhausted-clause-does g c =
    heard_as (at c.args.self.now stage.Beginning) c.refuse_begin.new.self c.refuse_begin.result _ _ c.in-Exhausted.is (λ a w m s.
    c.refuse_begin.ensures.does a w s.1)

pub returns-in_default-clause-does : goal.returns-in_default-clause-does
returns-in_default-clause-does g c =
    word_stays (at c.args.self.now stage.Beginning) c.unchanged.new.self c.unchanged.result (shown_notice c.args.heard)
    c.unchanged.ensures.stage c.unchanged.ensures.told
    (λ a w. begun_else w a (seat_of (at c.args.self.now stage.Beginning)) c.args.heard c.in_default.not-Begun c.in_default.not-Exhausted)

pub returns-in-Begun-clause-keeps : goal.returns-in-Begun-clause-keeps
returns-in-Begun-clause-keeps g c v =
    keeps_from v c.args.self.now c.args.self.now c.finish_begin.new.self stage.Beginning stage.Idle refl (c.finish_begin.ensures.keeps v)
    (λ n h. tt)
    (λ z. tt)

pub returns-in-Exhausted-clause-keeps : goal.returns-in-Exhausted-clause-keeps
returns-in-Exhausted-clause-keeps g c v =
    keeps_from v c.args.self.now c.args.self.now c.refuse_begin.new.self stage.Beginning stage.Idle refl (c.refuse_begin.ensures.keeps v)
    (λ n
    h. tt) (λ z. tt)

pub returns-in_default-clause-keeps : goal.returns-in_default-clause-keeps
returns-in_default-clause-keeps g c v = keeps_same v (at c.args.self.now stage.Beginning) c.unchanged.new.self c.unchanged.ensures.stage

pub returns-in-Begun-clause-leaves : goal.returns-in-Begun-clause-leaves
returns-in-Begun-clause-leaves g c =
    c.finish_begin.ensures.leaves

pub returns-in-Exhausted-clause-leaves : goal.returns-in-Exhausted-clause-leaves
returns-in-Exhausted-clause-leaves g c =
    copies_idle (at c.args.self.now stage.Beginning) c.args.self.now c.refuse_begin.new.self c.refuse_begin.ensures.leaves

pub returns-in_default-clause-leaves : goal.returns-in_default-clause-leaves
returns-in_default-clause-leaves g c =
    copies_same (at c.args.self.now stage.Beginning) c.unchanged.new.self refl c.unchanged.ensures.stage
