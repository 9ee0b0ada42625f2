-- What a call on a collection makes of an idle actor that is asked it, where what it has of the collections is its own.
use Rattle.std.specs.Prelude.{◌≡◌, ℕ, ◌&&◌, Bool, true}
use Rattle.seq_model.specs.declared.call.Op.{Op}
use Rattle.replay_log.specs.Worlds.{World, Seat, After, actor_of, calls_on, if_allowed, is_known, may_ask}
use Rattle.replay_log.specs.Contents.{block_of}
use Rattle.step_core.specs.Shown as words
use Rattle.step_core.specs.declared.actor.Actor.{Actor}
use Rattle.step_core.specs.declared.actor.Place.TheVariants as place
use Rattle.tx_actor.specs.declared.actor.Stage.TheVariants as stage
use Rattle.tx_actor.specs.declared.actor.ActorNotice.{ActorNotice}
use Rattle.tx_actor.specs.declared.actor.TxActor.{TxActor}
use Rattle.tx_actor.specs.Asks.{Stands}
use Rattle.actor_parts.specs.Blocks.{BlocksView, IsLaid}
use Rattle.actor_parts.specs.CopyInWorld.{call_on}
use Rattle.actor_parts.specs.Owns.{AreOfBlocks, MayCall}
use Rattle.tx_actor.specs.Owns.{OwnsCopies}
use Rattle.tx_actor.specs.Running.{Runs, notice_of}

-- The actor can be asked calls on collections that are laid out so: it is idle in its transaction, and so is its word actor, and its copies
-- are of their blocks.
pub record CanCall {V : Type 0} (v : BlocksView) (r : TxActor V) : Type 0 where
  pub stage : r.stage ≡ stage.Open
  pub rests : r.words.place ≡ place.Open
  pub blocks : AreOfBlocks v r.copies.items

module _ {V : Type 0} where
  -- what is there answers the call, and a declared reader asks for no change
  abbrev pub is_allowed : BlocksView → Actor → ℕ → Op V → Bool
  is_allowed v y k op = is_known (block_of v.blocks k) op && may_ask (words.actor_of y) op

  -- a call on collection k, like the definitions' of each call that is not on a word
  abbrev pub ask_call : World V → ℕ → Seat V → ℕ → Op V → After V
  ask_call w a x k op =
      if_allowed w a x (is_known (block_of w.blocks k) op && may_ask (actor_of w a) op) true (calls_on w a x (call_on k op))

  -- In every world that is laid out so, in which r is an actor that owns its copies and may call, it is u after f, which answers t, and
  -- owns its copies.
  abbrev pub AsksOwn : BlocksView → TxActor V → TxActor V → ActorNotice V → (ℕ → World V → After V) → Type 0
  AsksOwn v r u t f =
      (a : ℕ) (w : World V) → IsLaid v w → Runs a r w → OwnsCopies r w a → MayCall w a
      → Runs a u (f a w).0 × (notice_of a t ≡ (f a w).1) × OwnsCopies u (f a w).0 a

  -- u is an actor, and owns its copies, wherever r is and does
  abbrev pub StandsOwn : TxActor V → TxActor V → Type 0
  StandsOwn r u = Stands r u × ((a : ℕ) (w : World V) → OwnsCopies r w a → OwnsCopies u w a)

  -- The same of any request: idle within a transaction it owns its copies, and may call, and owns them afterwards.
  abbrev pub AsksAt : BlocksView → TxActor V → TxActor V → ActorNotice V → (ℕ → World V → After V) → Type 0
  AsksAt v r u t f =
      (a : ℕ) (w : World V) → IsLaid v w → Runs a r w → (r.stage ≡ stage.Open → OwnsCopies r w a × MayCall w a)
      → Runs a u (f a w).0 × (notice_of a t ≡ (f a w).1) × (r.stage ≡ stage.Open → OwnsCopies u (f a w).0 a)
