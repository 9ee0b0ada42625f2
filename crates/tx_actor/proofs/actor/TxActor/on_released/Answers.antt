use Rattle.std.proofs.Common.{refl}
use Rattle.tx_actor.specs.Running.{at, seat_at}
use Rattle.actor_parts.specs.Dispatch.{shown_notice}
use Rattle.tx_actor.specs.declared.actor.Stage.TheVariants as stage
use Rattle.tx_actor.proofs.DispatchLemmas.{heard_as, word_stays, released_else}
use Rattle.tx_actor.proofs.ActorBoundsLemmas.{keeps_from, keeps_same}
use Rattle.tx_actor.proofs.CopiesByStageLemmas.{copies_idle, copies_same}
use Rattle.tx_actor.proofs.actor.TxActor.on_released.Goals as goal

pub returns-in-Released-clause-does : goal.returns-in-Released-clause-does
returns-in-Released-clause-does g c =
    heard_as (at c.args.self.now stage.Releasing) c.finish_commit.new.self c.finish_commit.result _ _ c.in-Released.is (λ a w m s.
    c.finish_commit.ensures.does a w s.1)

pub returns-in_default-clause-does : goal.returns-in_default-clause-does
returns-in_default-clause-does g c =
    word_stays (at c.args.self.now stage.Releasing) c.unchanged.new.self c.unchanged.result (shown_notice c.args.heard)
    c.unchanged.ensures.stage c.unchanged.ensures.told
    (λ a w. released_else w a (seat_at (w.seats a) (at c.args.self.now stage.Releasing)) c.args.heard c.in_default.not-Released)

pub returns-in-Released-clause-keeps : goal.returns-in-Released-clause-keeps
returns-in-Released-clause-keeps g c v =
    keeps_from v c.args.self.now c.args.self.now c.finish_commit.new.self stage.Releasing stage.Idle refl
    (c.finish_commit.ensures.keeps v) (λ n h.
    tt) (λ z. tt)

pub returns-in_default-clause-keeps : goal.returns-in_default-clause-keeps
returns-in_default-clause-keeps g c v = keeps_same v (at c.args.self.now stage.Releasing) c.unchanged.new.self c.unchanged.ensures.stage

pub returns-in-Released-clause-leaves : goal.returns-in-Released-clause-leaves
returns-in-Released-clause-leaves g c =
    copies_idle (at c.args.self.now stage.Releasing) c.args.self.now c.finish_commit.new.self c.finish_commit.ensures.leaves

pub returns-in_default-clause-leaves : goal.returns-in_default-clause-leaves
returns-in_default-clause-leaves g c =
    copies_same (at c.args.self.now stage.Releasing) c.unchanged.new.self refl c.unchanged.ensures.stage
