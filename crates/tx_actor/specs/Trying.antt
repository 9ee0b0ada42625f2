-- A gate that is tried for a call.
use Rattle.std.specs.Prelude.{ℕ, true}
use Rattle.actor_parts.specs.Blocks.{BlocksView}
use Rattle.actor_parts.specs.Dispatch.{after_try}
use Rattle.tx_actor.specs.CopiesByStage.{KeepsCopies}
use Rattle.tx_actor.specs.ActorBounds.{KeepsIn}
use Rattle.tx_actor.specs.Running.{Does, at, seat_of, stage_of}
use Rattle.tx_actor.specs.declared.actor.CollectionCall.{CollectionCall}
use Rattle.tx_actor.specs.declared.actor.Stage.TheVariants as stage
use Rattle.tx_actor.specs.declared.actor.ActorNotice.TheVariants as told
use Rattle.tx_actor.specs.declared.actor.TxActor.{TxActor}

-- Where it was free, an actor that tries it is one that holds it.
abbrev pub HoldsGates : Type 0 → Type 0
HoldsGates V =
    (r : TxActor V) (asked : CollectionCall V) (tries : ℕ) →
    let t = at r (stage.Trying asked tries) in
    let u = at r (stage.Copying asked) in
    Does t u told.Quiet (λ a w. after_try w a (seat_of t) (stage_of t.stage) true) × ((v : BlocksView) → KeepsIn v t u) × KeepsCopies t u
