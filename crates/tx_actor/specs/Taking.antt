-- What a call on a key leaves of its actor that holds its gate no longer than it has to: what it touches is taken under the gate, and it is
-- made ready once the gate is put back, while it waits for its location.
use Rattle.std.specs.Prelude.{◌≡◌, ℕ, ◌+◌, true, Option, Some, None}
use Rattle.std.specs.Global.{Vec}
use Rattle.std.specs.declared.alloc.Global.{Global}
use Rattle.std.specs.declared.collections.VecDeque.{VecDeque}
use Rattle.tx_sets.specs.Entries.{lookup}
use Rattle.seq_model.specs.declared.call.Op.{Op}
use Rattle.seq_model.specs.declared.call.Op.TheVariants.{Get, Put, Remove, Count, Add, Take}
use Rattle.seq_model.specs.declared.event.Notice.TheVariants.{Quiet}
use Rattle.conflict.specs.declared.outcome.Outcome.{Outcome}
use Rattle.conflict.specs.Footprints.{key_location}
use Rattle.replay_log.specs.declared.base.Base.{Base}
use Rattle.replay_log.specs.Base.{outcome_of, shown_of, stripes_of}
use Rattle.replay_log.specs.Parts.{Kind, MapKind, BagKind, kind_of}
use Rattle.replay_log.specs.Contents.{Block, block_of, first_of}
use Rattle.replay_log.specs.Worlds as worlds
use Rattle.replay_log.specs.Worlds.{World, starve_at, step_at}
use Rattle.actor_parts.specs.Blocks.{BlocksView, IsLaid}
use Rattle.actor_parts.specs.Dispatch.{is_loading}
use Rattle.actor_parts.specs.declared.copies.CopyOfCollection.{CopyOfCollection}
use Rattle.actor_parts.specs.declared.copies.BaseExcerpt.{BaseExcerpt}
use Rattle.actor_parts.specs.PrivateCopy.{IsFound}
use Rattle.actor_parts.specs.Taking.{IsTakenAt, fits_base}
use Rattle.step_core.specs.declared.actor.Place.TheVariants as place
use Rattle.tx_actor.specs.declared.actor.CallWithOutcome as running
use Rattle.tx_actor.specs.declared.actor.CollectionCall.{CollectionCall}
use Rattle.tx_actor.specs.declared.actor.Stage.{Stage}
use Rattle.tx_actor.specs.declared.actor.Stage.TheVariants as stage
use Rattle.tx_actor.specs.declared.actor.ActorNotice.{ActorNotice}
use Rattle.tx_actor.specs.declared.actor.ActorNotice.TheVariants as told
use Rattle.tx_actor.specs.declared.actor.TxActor.{TxActor}
use Rattle.tx_actor.specs.declared.taking.KeyedCall.{KeyedCall}
use Rattle.tx_actor.specs.declared.taking.WaitingCall.{WaitingCall}
use Rattle.tx_actor.specs.Copying.{CanCopy, MayCopy}
use Rattle.tx_actor.specs.Running.{Runs, asked_of, at, seat_of}

-- the location of the key that a call is on, in n stripes of a collection of this kind; none for a call on no key
abbrev pub key_location_in : {V : Type 0} → ℕ → Kind → Op V → Option ℕ
key_location_in n MapKind (Get k) = Some (key_location n k)
key_location_in n MapKind (Put k v) = Some (key_location n k)
key_location_in n MapKind (Remove k) = Some (key_location n k)
key_location_in n BagKind (Count x) = Some (key_location n x)
key_location_in n BagKind (Add x) = Some (key_location n x)
key_location_in n BagKind (Take x) = Some (key_location n x)
key_location_in n kind op = None

-- what the call touches of the base is taken, and all else of r is in u as it was
pub record AreTakenBy {V : Type 0} (v : BlocksView) (r u : TxActor V) (base : Base V) (asked : CollectionCall V) (i : ℕ) : Type 0 where
  pub block : Block
  pub found : BaseExcerpt V
  pub copies : Vec (CopyOfCollection V)
  pub there : block_of v.blocks asked.collection ≡ Some block
  pub is : IsFound base asked.op found
  pub at : IsTakenAt block.stripes asked.collection found i r.copies.items copies.items
  pub same : u ≡ record r { copies = copies }

-- The call is on a key whose location r has not read, and its locations fit the sets of r.
pub record WaitsForKey {V : Type 0} (v : BlocksView) (r : TxActor V) (base : Base V) (asked : CollectionCall V) : Type 0 where
  pub place : ℕ
  pub key : key_location_in (stripes_of base) (kind_of (shown_of base)) asked.op ≡ Some place
  pub unread : lookup r.words.reads.entries (first_of v.words v.blocks asked.collection + place) ≡ None
  pub fits : (o : Outcome V) → outcome_of asked.op (shown_of base) ≡ Some o
      → fits_base r.words base (first_of v.words v.blocks asked.collection) o ≡ true

module _ {V : Type 0} where
  -- such a call is taken, or nothing is
  abbrev pub AreTaken : BlocksView → (r u : TxActor V) → Base V → CollectionCall V → Option ℕ → Type 0
  AreTaken v r u base asked None = u ≡ r
  AreTaken v r u base asked (Some i) = AreTakenBy v r u base asked i × WaitsForKey v r base asked

  abbrev pub IsTakenCall : BlocksView → (r u : TxActor V) → Base V → KeyedCall V → Type 0
  IsTakenCall v r u base p = AreTaken v r u base p.asked (Some p.place)

  -- so u came of an actor that held the gate of the call
  abbrev pub WasTaken : BlocksView → TxActor V → KeyedCall V → Type 0
  WasTaken v u p = (r : TxActor V) × (base : Base V) × CanCopy v r base p.asked × IsTakenCall v r u base p

  -- it is taken, or r is at its call still
  abbrev pub AreTakenFor : BlocksView → (r u : TxActor V) → Base V → CollectionCall V → Option (KeyedCall V) → Type 0
  AreTakenFor v r u base asked None = u ≡ at r (stage.Copying asked)
  AreTakenFor v r u base asked (Some p) = (p.asked ≡ asked) × IsTakenCall v r u base p

  abbrev pub AreTakenAt : BlocksView → (r u : TxActor V) → Base V → Option (KeyedCall V) → Stage V → Type 0
  AreTakenAt v r u base t (stage.Copying asked) = AreTakenFor v (at r stage.Idle) u base asked t
  AreTakenAt v r u base t s = (u ≡ r) × (t ≡ None)

  -- In every world in which the step may be taken, it answers nothing, and lets the seat read for its call; where the request then finds no
  -- memory the actor is u, and nothing is answered.
  abbrev pub StarvesBehind : BlocksView → TxActor V → TxActor V → Base V → CollectionCall V → Type 0
  StarvesBehind v r u base asked =
      (a : ℕ) (w : World V) → IsLaid v w → Runs a r w → MayCopy v w a r base asked →
      let f = step_at w a (seat_of r) (worlds.Copying (asked_of asked)) in
      let g = starve_at f.0 a (f.0.seats a) (f.0.seats a).stage in
      (is_loading (f.0.seats a).stage ≡ true) × (f.1 ≡ Quiet) × Runs a u g.0 × (g.1 ≡ Quiet)

  abbrev pub StarvesBehindAt : BlocksView → TxActor V → TxActor V → Base V → Stage V → Type 0
  StarvesBehindAt v r u base (stage.Copying asked) = StarvesBehind v r u base asked
  StarvesBehindAt v r u base s = ⊥

  -- ---- a call that waits for its location
  -- r, which waits for this location: the first of those that are left of this call
  abbrev pub waiting : TxActor V → running.CallWithOutcome V → VecDeque (ℕ × ℕ) Global → ℕ → TxActor V
  waiting r o left l = record r { words = record r.words { place = place.Look l }; stage = stage.Loading o left }

  -- u, which waits where its call was handed over
  abbrev pub waiting_at : Option (WaitingCall V) → TxActor V → TxActor V
  waiting_at None u = u
  waiting_at (Some w) u = waiting u w.call w.left w.location

  -- and then nothing is answered
  abbrev pub told_at : Option (WaitingCall V) → ActorNotice V → ActorNotice V
  told_at None t = t
  told_at (Some w) t = told.Quiet
