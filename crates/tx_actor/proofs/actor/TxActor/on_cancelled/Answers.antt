use Rattle.std.proofs.Common.{refl}
use Rattle.tx_actor.specs.Running.{at, seat_of}
use Rattle.actor_parts.specs.Dispatch.{shown_notice}
use Rattle.tx_actor.specs.declared.actor.Stage.TheVariants as stage
use Rattle.tx_actor.proofs.DispatchLemmas.{heard_as, word_stays, cancelled_else}
use Rattle.tx_actor.proofs.ActorBoundsLemmas.{keeps_from, keeps_same}
use Rattle.tx_actor.proofs.CopiesByStageLemmas.{copies_idle, copies_same}
use Rattle.tx_actor.proofs.actor.TxActor.on_cancelled.Goals as goal

pub returns-in-Cancelled-clause-does : goal.returns-in-Cancelled-clause-does
returns-in-Cancelled-clause-does g c =
    heard_as (at c.args.self.now stage.Cancelling) c.after_cancel.new.self c.after_cancel.result _ _ c.in-Cancelled.is (λ a w m s.
    c.after_cancel.ensures.does a w s.1)

pub returns-in_default-clause-does : goal.returns-in_default-clause-does
returns-in_default-clause-does g c =
    word_stays (at c.args.self.now stage.Cancelling) c.unchanged.new.self c.unchanged.result (shown_notice c.args.heard)
    c.unchanged.ensures.stage c.unchanged.ensures.told
    (λ a w. cancelled_else w a (seat_of (at c.args.self.now stage.Cancelling)) c.args.heard c.in_default.not-Cancelled)

pub returns-in-Cancelled-clause-keeps : goal.returns-in-Cancelled-clause-keeps
returns-in-Cancelled-clause-keeps g c v =
    keeps_from v c.args.self.now c.args.self.now c.after_cancel.new.self stage.Cancelling stage.Idle refl (c.after_cancel.ensures.keeps v)
    (λ n
    h. tt) (λ z. tt)

pub returns-in_default-clause-keeps : goal.returns-in_default-clause-keeps
returns-in_default-clause-keeps g c v = keeps_same v (at c.args.self.now stage.Cancelling) c.unchanged.new.self c.unchanged.ensures.stage

pub returns-in-Cancelled-clause-leaves : goal.returns-in-Cancelled-clause-leaves
returns-in-Cancelled-clause-leaves g c =
    copies_idle (at c.args.self.now stage.Cancelling) c.args.self.now c.after_cancel.new.self c.after_cancel.ensures.leaves

pub returns-in_default-clause-leaves : goal.returns-in_default-clause-leaves
returns-in_default-clause-leaves g c =
    copies_same (at c.args.self.now stage.Cancelling) c.unchanged.new.self refl c.unchanged.ensures.stage
