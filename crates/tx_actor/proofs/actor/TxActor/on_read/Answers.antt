use Rattle.std.proofs.Common.{refl}
use Rattle.tx_actor.specs.Running.{at, seat_of}
use Rattle.actor_parts.specs.Dispatch.{shown_notice}
use Rattle.tx_actor.specs.declared.actor.Stage.TheVariants as stage
use Rattle.tx_actor.proofs.DispatchLemmas.{heard_as, word_stays, read_else}
use Rattle.tx_actor.proofs.ActorBoundsLemmas.{keeps_from, keeps_same}
use Rattle.tx_actor.proofs.CopiesByStageLemmas.{copies_idle, copies_same}
use Rattle.tx_actor.proofs.actor.TxActor.on_read.Goals as goal

pub returns-in-Number-clause-does : goal.returns-in-Number-clause-does
returns-in-Number-clause-does g c =
    heard_as (at c.args.self.now (stage.Reading c.args.location)) c.read.new.self c.read.result _ _ c.in-Number.is (λ a w m s.
    c.read.ensures.does a w s.1)

pub returns-in-Moved-clause-does : goal.returns-in-Moved-clause-does
returns-in-Moved-clause-does g c =
    heard_as (at c.args.self.now (stage.Reading c.args.location)) c.abort_for.new.self c.abort_for.result _ _ c.in-Moved.is (λ a w m
    s. c.abort_for.ensures.does a w s.1)

pub returns-in_default-clause-does : goal.returns-in_default-clause-does
returns-in_default-clause-does g c =
    word_stays (at c.args.self.now (stage.Reading c.args.location)) c.unchanged.new.self c.unchanged.result (shown_notice c.args.heard)
    c.unchanged.ensures.stage c.unchanged.ensures.told
    (λ a w. read_else w a (seat_of (at c.args.self.now (stage.Reading c.args.location))) c.args.location c.args.heard
    c.in_default.not-Number c.in_default.not-Moved)

pub returns-in-Number-clause-keeps : goal.returns-in-Number-clause-keeps
returns-in-Number-clause-keeps g c v =
    keeps_from v c.args.self.now c.args.self.now c.read.new.self (stage.Reading c.args.location) stage.Idle refl (c.read.ensures.keeps v)
    (λ n h. tt) (λ z. tt)

pub returns-in-Moved-clause-keeps : goal.returns-in-Moved-clause-keeps
returns-in-Moved-clause-keeps g c v =
    keeps_from v c.args.self.now c.args.self.now c.abort_for.new.self (stage.Reading c.args.location) stage.Idle refl
    (c.abort_for.ensures.keeps v) (λ n h. tt) (λ z. tt)

pub returns-in_default-clause-keeps : goal.returns-in_default-clause-keeps
returns-in_default-clause-keeps g c v =
    keeps_same v (at c.args.self.now (stage.Reading c.args.location)) c.unchanged.new.self c.unchanged.ensures.stage

pub returns-in-Number-clause-leaves : goal.returns-in-Number-clause-leaves
returns-in-Number-clause-leaves g c =
    c.read.ensures.leaves

pub returns-in-Moved-clause-leaves : goal.returns-in-Moved-clause-leaves
returns-in-Moved-clause-leaves g c =
    copies_idle (at c.args.self.now (stage.Reading c.args.location)) c.args.self.now c.abort_for.new.self c.abort_for.ensures.leaves

pub returns-in_default-clause-leaves : goal.returns-in_default-clause-leaves
returns-in_default-clause-leaves g c =
    copies_same (at c.args.self.now (stage.Reading c.args.location)) c.unchanged.new.self refl c.unchanged.ensures.stage
