use Rattle.std.proofs.Common.{Option, sym, subst}
use Rattle.tx_actor.specs.Copying.{HasTaken, StepsOn}
use Rattle.tx_actor.specs.ActorBounds.{KeepsIn}
use Rattle.tx_actor.specs.Running.{at}
use Rattle.tx_actor.specs.Taking.{told_at, waiting_at}
use Rattle.tx_actor.specs.declared.actor.Stage.TheVariants as stage
use Rattle.tx_actor.specs.declared.actor.ActorNotice.{ActorNotice}
use Rattle.tx_actor.specs.declared.actor.TxActor.{TxActor}
use Rattle.tx_actor.specs.declared.taking.WaitingCall.{WaitingCall}
use Rattle.tx_actor.proofs.actor.TxActor.continue_or_wait.Goals as goal

-- it waits
pub returns-in-Ok-Some-clause-ok : goal.returns-in-Ok-Some-clause-ok
returns-in-Ok-Some-clause-ok g c r base can taken =
    let v = c.args.blocks.now in
    let asked = c.args.taken.asked in
    let u = c.continue_keyed.new.self in
    let t = c.continue_keyed.new.said in
    subst
    (λ (z : TxActor g.row.V.Denot × ActorNotice g.row.V.Denot). StepsOn v (at r (stage.Copying asked)) z.0 z.1 base asked
    × HasTaken v r z.0 z.1 base asked)
    (λ i. (sym c.waits.ensures.actor i, sym c.waits.ensures.told i))
    (subst (λ (w : Option (WaitingCall g.row.V.Denot)). StepsOn v (at r (stage.Copying asked)) (waiting_at w u) (told_at w t) base asked
    × HasTaken v r (waiting_at w u) (told_at w t) base asked) c.in-Ok-Some.field-0-is (c.in-Ok-Some.ensures.ok r base can taken))

pub returns-in-Ok-Some-clause-keeps : goal.returns-in-Ok-Some-clause-keeps
returns-in-Ok-Some-clause-keeps g c r base can taken noreads =
    let v = c.args.blocks.now in
    let from = at r (stage.Copying c.args.taken.asked) in
    let u = c.continue_keyed.new.self in
    subst (λ (z : TxActor g.row.V.Denot). KeepsIn v from z) (sym c.waits.ensures.actor)
    (subst (λ (w : Option (WaitingCall g.row.V.Denot)). KeepsIn v from (waiting_at w u)) c.in-Ok-Some.field-0-is
    (c.in-Ok-Some.ensures.keeps r base can taken noreads))

-- or not
pub returns-in-Ok-None-clause-ok : goal.returns-in-Ok-None-clause-ok
returns-in-Ok-None-clause-ok g c r base can taken =
    let v = c.args.blocks.now in
    let asked = c.args.taken.asked in
    let u = c.continue_keyed.new.self in
    let t = c.continue_keyed.new.said in
    subst (λ (w : Option (WaitingCall g.row.V.Denot)). StepsOn v (at r (stage.Copying asked)) (waiting_at w u) (told_at w t) base asked
    × HasTaken v r (waiting_at w u) (told_at w t) base asked) c.in-Ok-None.field-0-is (c.in-Ok-None.ensures.ok r base can taken)

pub returns-in-Ok-None-clause-keeps : goal.returns-in-Ok-None-clause-keeps
returns-in-Ok-None-clause-keeps g c r base can taken noreads =
    let u = c.continue_keyed.new.self in
    subst (λ (w : Option (WaitingCall g.row.V.Denot)). KeepsIn c.args.blocks.now (at r (stage.Copying c.args.taken.asked)) (waiting_at w u))
    c.in-Ok-None.field-0-is (c.in-Ok-None.ensures.keeps r base can taken noreads)

-- an allocation failed
pub returns-in-Err-clause-keeps : goal.returns-in-Err-clause-keeps
returns-in-Err-clause-keeps g c r base can taken noreads = c.in-Err.ensures.bounds r base can taken
