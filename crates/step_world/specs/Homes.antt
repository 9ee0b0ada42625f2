-- What a base that is put back asks of its actor, and what it makes of the world.
use Rattle.std.specs.Prelude.{◌≡◌, ℕ, ◌<◌, ◌^◌, List, [], All, Some, length, slice_get}
use Rattle.seq_model.specs.declared.event.Event.TheVariants.{Step}
use Rattle.seq_model.specs.Contents.{Contents}
use Rattle.replay_log.specs.declared.base.Base.{Base}
use Rattle.replay_log.specs.Base.{IsPreparedFor, StaysPrepared, editions_of, shown_of, stripes_of}
use Rattle.replay_log.specs.Contents.{Block, block_of}
use Rattle.replay_log.specs.Worlds.{World, happens}
use Rattle.actor_parts.specs.Logs.{changes_had}
use Rattle.actor_parts.specs.Owns.{IsOwn}
use Rattle.actor_parts.specs.CopyList.{copy_of}
use Rattle.tx_actor.specs.Running.{Runs, notice_of}
use Rattle.actor_parts.specs.declared.copies.CopyOfCollection.{CopyOfCollection}
use Rattle.tx_actor.specs.declared.actor.Stage.{Stage}
use Rattle.tx_actor.specs.declared.actor.Stage.TheVariants as stage
use Rattle.tx_actor.specs.declared.actor.ActorNotice.{ActorNotice}
use Rattle.tx_actor.specs.declared.actor.TxActor.{TxActor}
use Rattle.actor_parts.specs.Openings.{HasShape}
use Rattle.actor_parts.specs.Tables.{HasTable}
use Rattle.actor_parts.specs.declared.table.Table.{Table}
use Rattle.step_world.specs.Reached.{IsReached}

module _ {V : Type 0} where
  -- b holds what d holds, and has room for what d has room for
  pub record IsAlike (d b : Base V) : Type 0 where
    pub shown : shown_of b ≡ shown_of d
    pub stripes : stripes_of b ≡ stripes_of d
    pub editions : editions_of b ≡ editions_of d
    pub room : StaysPrepared d b

  -- and so does each of them
  pub record AreAlike (ds bs : List (Base V)) : Type 0 where
    pub count : length bs ≡ length ds
    pub each : (k : ℕ) (b : Base V) → slice_get bs k ≡ Some b → (d : Base V) × (slice_get ds k ≡ Some d) × IsAlike d b

  -- the base of k has room for the log of the calls on it among what there is of collections
  abbrev pub HasRoomAt : Table V → List (CopyOfCollection V) → ℕ → Type 0
  HasRoomAt t cs k = (base : Base V) → slice_get t.bases.items k ≡ Some base → IsPreparedFor (changes_had (copy_of cs k)) base

  abbrev pub HaveRoom : Table V → List (CopyOfCollection V) → List ℕ → Type 0
  HaveRoom t cs ks = All (HasRoomAt t cs) ks

  -- the collections that a commit has written whose bases are still to be put back, from its first value store on
  abbrev pub homes_left : Stage V → List ℕ
  homes_left (stage.Storing homes) = homes.items
  homes_left (stage.Homing homes) = homes.items
  homes_left s = []

  -- the base of each that is left to r has room for the log of r's calls on it
  abbrev pub HasRoomLeft : Table V → TxActor V → Type 0
  HasRoomLeft t r = HaveRoom t r.copies.items (homes_left r.stage)

  -- and has it before the first value store of r, where that is next
  abbrev pub HasRoomDue : Table V → List (CopyOfCollection V) → Stage V → Type 0
  HasRoomDue t cs (stage.Ready homes) = HaveRoom t cs homes.items
  HasRoomDue t cs s = Unit {0}

  -- The table is that of some world that events have reached, in which r has its own of collection k, and the base of k has room for the
  -- log of r's calls on it.
  pub record MayGoHome (k : ℕ) (t : Table V) (r : TxActor V) : Type 0 where
    pub opening : Contents V
    pub world : World V
    pub actor : ℕ
    pub reached : IsReached opening world
    pub table : HasTable t world
    pub shape : HasShape t world.words world.blocks
    pub block : Block
    pub there : block_of world.blocks k ≡ Some block
    pub own : IsOwn world actor k (copy_of r.copies.items k)
    pub room : HasRoomAt t r.copies.items k
    pub clock : t.cells.clock < 2 ^ 63

  -- In every world that events have reached, of which t is the table, in which r is actor a and has its own of collection k, the step of a
  -- leaves the table u and the actor s, and answers n.
  pub record IsHomeTurn (k : ℕ) (t : Table V) (r : TxActor V) (u : Table V) (s : TxActor V) (n : ActorNotice V) : Type 0 where
    pub turns : (opening : Contents V) (w : World V) (a : ℕ) → IsReached opening w → HasTable t w → HasShape t w.words w.blocks → Runs a r w
        → IsOwn w a k (copy_of r.copies.items k)
        → HasTable u (happens w (Step a)).0 × Runs a s (happens w (Step a)).0 × (notice_of a n ≡ (happens w (Step a)).1)
