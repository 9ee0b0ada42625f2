-- What a step of a word actor leaves while a call's locations are read.
use Rattle.std.specs.Prelude.{◌≡◌, ℕ, true, [], ◌∷◌}
use Rattle.step_core.specs.Shown as words
use Rattle.step_core.specs.Sound.{Fits, IsLoad, KeepsRoom}
use Rattle.step_core.specs.declared.actor.Actor.{Actor}
use Rattle.replay_log.specs.Worlds.{World, acted, actor_of, moves, word_notice}
use Rattle.actor_parts.specs.Blocks.{BlocksView}
use Rattle.actor_parts.specs.Dispatch.{is_loading}
use Rattle.tx_actor.specs.ActorBounds.{HasHeard, IsRunning}
use Rattle.tx_actor.specs.LoadStep.{IsLoadable}
use Rattle.tx_actor.specs.Running.{stage_of}
use Rattle.tx_actor.specs.declared.actor.TxActor.{TxActor}

-- While a call's locations are read, the word actor x of r is in a load. A step of it, in a world that has x for it, leaves y, which takes
-- no more room than was answered: so the load may be heard, and what it asks of its actor is there.
abbrev pub LoadsKeep : Type 0 → Type 0
LoadsKeep V =
    (v : BlocksView) (r : TxActor V) (y : Actor) (w : World V) (a : ℕ) → is_loading (stage_of r.stage) ≡ true → IsRunning v r
    → (IsLoad r.words.place → KeepsRoom r.words y) → ((n : ℕ) → Fits n r.words → Fits n y) → actor_of w a ≡ words.actor_of r.words
    → actor_of (acted w (moves a ∷ [])) a ≡ words.actor_of y →
    let u : TxActor V = record r { words = y } in
    IsLoadable u u.stage (word_notice w a) × HasHeard v u (word_notice w a)
