-- What an event leaves its actor of collections, in each world that events have reached.
use Rattle.std.specs.Prelude.{◌≡◌, ◌≢◌, ◌⊎◌, ℕ, false}
use Rattle.seq_model.specs.Contents.{Contents}
use Rattle.seq_model.specs.declared.event.Event.TheVariants.{Ask, Starve, Step}
use Rattle.seq_model.specs.declared.event.Request.{Request}
use Rattle.replay_log.specs.Contents.{CollectionCall}
use Rattle.replay_log.specs.Worlds.{Copying, World, ask_at, happens}
use Rattle.actor_parts.specs.Blocks.{BlocksView, IsLaid}
use Rattle.actor_parts.specs.Dispatch.{is_loading}
use Rattle.tx_actor.specs.Calls.{AsksAt}
use Rattle.tx_actor.specs.CopiesByStage.{HasCopies, KeepsCopies, ReadsStill}
use Rattle.tx_actor.specs.ActorBounds.{IsRunning}
use Rattle.tx_actor.specs.Running.{Runs, seat_of, stage_of}
use Rattle.tx_actor.specs.declared.actor.Stage.TheVariants as stage
use Rattle.tx_actor.specs.declared.actor.ActorNotice.{ActorNotice}
use Rattle.tx_actor.specs.declared.actor.TxActor.{TxActor}
use Rattle.tx_actor.specs.Reached.{IsReached}

-- A step that is on no copy leaves s of r, whose copies stand as its stage asks: it has of collections what that stage asks.
abbrev pub StepsKeep : Type 0 → Type 0
StepsKeep V =
    (o : Contents V) (w : World V) (a : ℕ) (r s : TxActor V) → is_loading (stage_of r.stage) ≡ false
    → ((asked : CollectionCall V) → stage_of r.stage ≡ Copying asked → ⊥) → KeepsCopies r s → IsReached o w → Runs a r w
    → Runs a s (happens w (Step a)).0 → HasCopies r w a → HasCopies s (happens w (Step a)).0 a

-- So does a failed allocation,
abbrev pub StarvesKeep : Type 0 → Type 0
StarvesKeep V =
    (o : Contents V) (w : World V) (a : ℕ) (r s : TxActor V) → KeepsCopies r s → IsReached o w → Runs a r w
    → Runs a s (happens w (Starve a)).0 → HasCopies r w a → HasCopies s (happens w (Starve a)).0 a

-- and a request, where the locations are laid out as b says.
abbrev pub AsksKeep : Type 0 → Type 0
AsksKeep V =
    (b : BlocksView) (o : Contents V) (w : World V) (a : ℕ) (q : Request V) (r s : TxActor V) (n : ActorNotice V)
    → AsksAt b r s n (λ a w. ask_at w a (seat_of r) (stage_of r.stage) q) → ReadsStill r.copies.items s.copies.items
    → (r.stage ≢ stage.Open → (s.stage ≡ stage.Beginning) ⊎ (s ≡ r)) → IsReached o w → IsLaid b w → Runs a r w → IsRunning b s
    → HasCopies r w a → HasCopies s (happens w (Ask a q)).0 a
