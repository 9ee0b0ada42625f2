-- What a request makes of an actor, where the locations of its world are laid out as v says.
use Rattle.std.specs.Prelude.{◌≡◌, ℕ, ◌<◌, true, [], ◌∷◌, length, Option, Some, None}
use Rattle.tx_sets.specs.Entries.{locations}
use Rattle.tx_machine.specs.Requests.{AskStore}
use Rattle.seq_model.specs.declared.call.Call.{Call}
use Rattle.seq_model.specs.declared.call.Op.TheVariants.{Read}
use Rattle.seq_model.specs.declared.call.Reply.TheVariants as reply
use Rattle.seq_model.specs.declared.event.Notice.TheVariants.{Quiet}
use Rattle.seq_model.specs.declared.event.Request.{Request}
use Rattle.seq_model.specs.declared.event.Request.TheVariants as request
use Rattle.seq_model.specs.declared.limits.TheConstants.{CALL_LIMIT}
use Rattle.tx_machine.specs.Boosted.{every, is_held}
use Rattle.replay_log.specs.Contents.{content}
use Rattle.replay_log.specs.WorldAnswers.{has_word_room, is_there}
use Rattle.replay_log.specs.Worlds as worlds
use Rattle.replay_log.specs.Worlds.{World, Seat, After, acted, actor_of, asks, at_stage, replied, seated}
use Rattle.actor_parts.specs.Blocks.{IsLaid, BlocksView}
use Rattle.tx_actor.specs.Running.{Runs, notice_of}
use Rattle.tx_actor.specs.declared.actor.ActorNotice.{ActorNotice}
use Rattle.tx_actor.specs.declared.actor.TxActor.{TxActor}

module _ {V : Type 0} where
  -- In every world that is laid out so and in which r is an actor, it is u after f, which answers t.
  abbrev pub Asks : BlocksView → TxActor V → TxActor V → ActorNotice V → (ℕ → World V → After V) → Type 0
  Asks v r u t f = (a : ℕ) (w : World V) → IsLaid v w → Runs a r w → Runs a u (f a w).0 × (notice_of a t ≡ (f a w).1)

  -- In every world that is laid out so and in which r is an actor, a call finds what it asks of, and its word finds room; and r is below
  -- the limit of calls.
  pub record AdmitsCall (v : BlocksView) (r : TxActor V) (call : Call V) : Type 0 where
    pub there : (a : ℕ) (w : World V) → IsLaid v w → Runs a r w → is_there w a call.target call.op ≡ true
    pub few : length r.calls.items < CALL_LIMIT
    pub room : (a : ℕ) (w : World V) → IsLaid v w → Runs a r w → has_word_room (actor_of w a) call.target call.op ≡ true

  -- there is no refusal that the request would have before any memory is taken
  abbrev pub Admits : BlocksView → TxActor V → Request V → Type 0
  Admits v r (request.Call call) = AdmitsCall v r call
  Admits v r q = Unit {0}

  -- u is an actor wherever r is
  abbrev pub Stands : TxActor V → TxActor V → Type 0
  Stands r u = (a : ℕ) (w : World V) → Runs a r w → Runs a u w

  -- where the gates of all written collections are held, u is what r is once the first value store is asked for
  abbrev pub MayStore : TxActor V → TxActor V → Type 0
  MayStore r u =
      (a : ℕ) (w : World V) → every (is_held (content w.words w.blocks) w.boosted a) (locations (actor_of w a).writes) ≡ true
      → Runs a r w → Runs a u (acted w (asks a AskStore ∷ []))

  -- a word was asked for, and this was found of it in the sets
  abbrev pub when_found : World V → ℕ → Seat V → ℕ → Option ℕ → After V
  when_found w a x l (Some v) = replied w a x (record { target = l; op = Read }) (reply.Number v)
  when_found w a x l None = (seated w a (at_stage x (worlds.Reading l)), Quiet)
