-- What the steps that are on copies leave an actor of collections, in each world that events have reached.
use Rattle.std.specs.Prelude.{◌≡◌, ℕ, true, List, [], ◌∷◌}
use Rattle.seq_model.specs.declared.event.Event.{Event}
use Rattle.seq_model.specs.declared.event.Event.TheVariants.{Step}
use Rattle.seq_model.specs.declared.held.Held.{Held}
use Rattle.replay_log.specs.declared.base.Base.{Base}
use Rattle.replay_log.specs.Contents.{Block, HaveStripes}
use Rattle.replay_log.specs.Worlds.{acted, happens, moves, opened, run, word_notice}
use Rattle.actor_laws.specs.Bases.{ShowsBase}
use Rattle.actor_parts.specs.Blocks.{BlocksView, IsLaid}
use Rattle.actor_parts.specs.Dispatch.{is_loading}
use Rattle.tx_actor.specs.Copying.{CanCopy, HasTaken, MayCopy}
use Rattle.tx_actor.specs.CopiesByStage.{HasCopies, HasLoaded, OwnsAll}
use Rattle.tx_actor.specs.Running.{Runs, at, notice_of, stage_of}
use Rattle.tx_actor.specs.declared.actor.CollectionCall.{CollectionCall}
use Rattle.tx_actor.specs.declared.actor.Stage.TheVariants as stage
use Rattle.tx_actor.specs.declared.actor.ActorNotice.{ActorNotice}
use Rattle.tx_actor.specs.declared.actor.TxActor.{TxActor}

-- While r reads for a call, and has taken the step of the words, what hearing it makes of r is an actor of the world after the step, and
-- has of collections what its stage asks.
abbrev pub LoadsStayOwn : Type 0 → Type 0
LoadsStayOwn V =
    (blocks : List Block) (clock : ℕ) (values : List ℕ) (held : List (Held V)) (events : List (Event V)) (a : ℕ) (r u : TxActor V)
    (t : ActorNotice V) → HaveStripes blocks →
    let w = run (opened blocks clock values held) events in
    let f = happens w (Step a) in
    is_loading (stage_of r.stage) ≡ true → Runs a r (acted w (moves a ∷ [])) → HasCopies r w a
    → HasLoaded r u t r.stage (word_notice w a) → Runs a u f.0 → notice_of a t ≡ f.1 → HasCopies u f.0 a

-- While r holds the gate of its call, and base is the collection's, what taking the call's part of the base makes of r is an actor of the
-- world after the step, and has of collections what its stage asks.
abbrev pub CopiesStayOwn : Type 0 → Type 0
CopiesStayOwn V =
    (blocks : List Block) (clock : ℕ) (values : List ℕ) (held : List (Held V)) (events : List (Event V)) (a : ℕ) (v : BlocksView)
    (r u : TxActor V) (t : ActorNotice V) (base : Base V) (asked : CollectionCall V) → HaveStripes blocks →
    let w = run (opened blocks clock values held) events in
    let f = happens w (Step a) in
    r.stage ≡ stage.Copying asked → IsLaid v w → Runs a r w → CanCopy v r base asked
    → ShowsBase w.words w.blocks w asked.collection base → OwnsAll r w a → MayCopy v w a r base asked
    → HasTaken v (at r stage.Idle) u t base asked → Runs a u f.0 → notice_of a t ≡ f.1 → HasCopies u f.0 a
