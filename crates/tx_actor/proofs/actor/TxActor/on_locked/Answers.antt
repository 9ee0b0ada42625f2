use Rattle.std.proofs.Common.{refl}
use Rattle.tx_actor.specs.Running.{at, seat_of}
use Rattle.actor_parts.specs.Dispatch.{shown_notice}
use Rattle.tx_actor.specs.declared.actor.Stage.TheVariants as stage
use Rattle.tx_actor.proofs.DispatchLemmas.{heard_as, word_stays, locked_else}
use Rattle.tx_actor.proofs.ActorBoundsLemmas.{keeps_from, keeps_same}
use Rattle.tx_actor.proofs.CopiesByStageLemmas.{copies_idle, copies_same}
use Rattle.tx_actor.proofs.actor.TxActor.on_locked.Goals as goal

pub returns-in-Locked-clause-does : goal.returns-in-Locked-clause-does
returns-in-Locked-clause-does g c =
    heard_as (at c.args.self.now (stage.Locking c.args.homes)) c.after_locks.new.self c.after_locks.result _ _ c.in-Locked.is (λ a w m s.
    c.after_locks.ensures.does a w s.2 s.1)

pub returns-in-Busy-clause-does : goal.returns-in-Busy-clause-does
returns-in-Busy-clause-does g c =
    heard_as (at c.args.self.now (stage.Locking c.args.homes)) c.abort_for.new.self c.abort_for.result _ _ c.in-Busy.is (λ a w m s.
    c.abort_for.ensures.does a w s.1)

pub returns-in-Invalid-clause-does : goal.returns-in-Invalid-clause-does
returns-in-Invalid-clause-does g c =
    heard_as (at c.args.self.now (stage.Locking c.args.homes)) c.abort_for-in-Invalid.new.self c.abort_for-in-Invalid.result _ _
    c.in-Invalid.is (λ a w m s. c.abort_for-in-Invalid.ensures.does a w s.1)

pub returns-in_default-clause-does : goal.returns-in_default-clause-does
returns-in_default-clause-does g c =
    word_stays (at c.args.self.now (stage.Locking c.args.homes)) c.unchanged.new.self c.unchanged.result (shown_notice c.args.heard)
    c.unchanged.ensures.stage c.unchanged.ensures.told
    (λ a w. locked_else w a (seat_of (at c.args.self.now (stage.Locking c.args.homes))) c.args.heard c.in_default.not-Locked
    c.in_default.not-Busy c.in_default.not-Invalid)

pub returns-in-Locked-clause-keeps : goal.returns-in-Locked-clause-keeps
returns-in-Locked-clause-keeps g c v = c.after_locks.ensures.keeps v

pub returns-in-Busy-clause-keeps : goal.returns-in-Busy-clause-keeps
returns-in-Busy-clause-keeps g c v =
    keeps_from v c.args.self.now c.args.self.now c.abort_for.new.self (stage.Locking c.args.homes) stage.Idle refl
    (c.abort_for.ensures.keeps v) (λ n h. tt) (λ z. tt)

pub returns-in-Invalid-clause-keeps : goal.returns-in-Invalid-clause-keeps
returns-in-Invalid-clause-keeps g c v =
    keeps_from v c.args.self.now c.args.self.now c.abort_for-in-Invalid.new.self (stage.Locking c.args.homes) stage.Idle refl
    (c.abort_for-in-Invalid.ensures.keeps v) (λ n h. tt) (λ z. tt)

pub returns-in_default-clause-keeps : goal.returns-in_default-clause-keeps
returns-in_default-clause-keeps g c v =
    keeps_same v (at c.args.self.now (stage.Locking c.args.homes)) c.unchanged.new.self c.unchanged.ensures.stage

pub returns-in-Locked-clause-leaves : goal.returns-in-Locked-clause-leaves
returns-in-Locked-clause-leaves g c =
    c.after_locks.ensures.leaves

pub returns-in-Busy-clause-leaves : goal.returns-in-Busy-clause-leaves
returns-in-Busy-clause-leaves g c =
    copies_idle (at c.args.self.now (stage.Locking c.args.homes)) c.args.self.now c.abort_for.new.self c.abort_for.ensures.leaves

pub returns-in-Invalid-clause-leaves : goal.returns-in-Invalid-clause-leaves
returns-in-Invalid-clause-leaves g c =
    copies_idle (at c.args.self.now
    (stage.Locking c.args.homes)) c.args.self.now c.abort_for-in-Invalid.new.self c.abort_for-in-Invalid.ensures.leaves

pub returns-in_default-clause-leaves : goal.returns-in_default-clause-leaves
returns-in_default-clause-leaves g c =
    copies_same (at c.args.self.now (stage.Locking c.args.homes)) c.unchanged.new.self refl c.unchanged.ensures.stage
