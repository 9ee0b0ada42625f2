-- What an actor has of collections in a world, by its stage, and what a request or a step leaves of it.
use Rattle.std.specs.Prelude.{◌≡◌, ◌≢◌, ◌⊎◌, ℕ, List, [], ◌∷◌, Some, Contains, slice_get}
use Rattle.std.specs.declared.alloc.Global.{Global}
use Rattle.std.specs.declared.collections.VecDeque.{VecDeque}
use Rattle.tx_sets.specs.Entries.{Entries}
use Rattle.tx_machine.specs.Actor.{Call}
use Rattle.tx_machine.specs.Notices as notice
use Rattle.tx_machine.specs.Opacity.{first_read}
use Rattle.seq_model.specs.declared.event.Answer.TheVariants.{Replied}
use Rattle.conflict.specs.declared.outcome.Outcome.{Outcome}
use Rattle.step_core.specs.Shown as words
use Rattle.replay_log.specs.Contents.{HaveStripes}
use Rattle.replay_log.specs.Worlds.{World, actor_of}
use Rattle.actor_parts.specs.declared.copies.CopyOfCollection.{CopyOfCollection}
use Rattle.actor_parts.specs.Judged.{judged, left_after}
use Rattle.actor_parts.specs.declared.judged.Judged.{Judged}
use Rattle.actor_parts.specs.declared.judged.Judged.TheVariants.{All, Next, Stale}
use Rattle.actor_parts.specs.CopyAtGate.{IsReadBy, IsReadOf}
use Rattle.actor_parts.specs.PrivateCopy.{answer_of}
use Rattle.actor_parts.specs.CopyList.{copy_of}
use Rattle.actor_parts.specs.LoadInWorld.{AreRead}
use Rattle.actor_parts.specs.Owns.{AreOnce, IsOwn}
use Rattle.tx_actor.specs.declared.actor.CallWithOutcome as running
use Rattle.tx_actor.specs.declared.actor.Stage.{Stage}
use Rattle.tx_actor.specs.declared.actor.Stage.TheVariants as stage
use Rattle.tx_actor.specs.declared.actor.ActorNotice.{ActorNotice}
use Rattle.tx_actor.specs.declared.actor.ActorNotice.TheVariants as told
use Rattle.tx_actor.specs.declared.actor.TxActor.{TxActor}
use Rattle.tx_actor.specs.Answers.{IsAcceptedAt}
use Rattle.tx_actor.specs.LoadInWorld.{OwnsCall}
use Rattle.tx_actor.specs.Owns.{OwnsCopies}

-- What r has of all collections is a's own in w, and each location that a call on it reads has been read.
pub record OwnsAll {V : Type 0} (r : TxActor V) (w : World V) (a : ℕ) : Type 0 where
  pub own : OwnsCopies r w a
  pub read : (k : ℕ) → IsReadOf w a k (copy_of r.copies.items k)

-- So it is of all collections but that of the call whose locations are read. What r has of this one is a's own, or a location was read with
-- another edition, so that the call is never accepted; and each location is read once those that are left are.
pub record OwnsLoading {V : Type 0} (r : TxActor V) (w : World V) (a : ℕ) (o : running.CallWithOutcome V) (left : Entries) : Type 0 where
  pub stripes : HaveStripes w.blocks
  pub once : AreOnce r.copies.items
  pub others : (k : ℕ) → k ≢ o.asked.collection → IsOwn w a k (copy_of r.copies.items k) × IsReadOf w a k (copy_of r.copies.items k)
  pub call : OwnsCall w a o left
  pub at : copy_of r.copies.items o.asked.collection ≡ Some call.copy
  pub read : (cs : List Call) → ((l e : ℕ) → first_read (actor_of w a).calls l ≡ Some e → first_read cs l ≡ Some e) → AreRead cs left
      → IsReadBy (first_read cs) call.first call.copy

module _ {V : Type 0} where
  -- what r has of these collections, which its commit has written, is a's own
  abbrev pub OwnsHomes : TxActor V → World V → ℕ → List ℕ → Type 0
  OwnsHomes r w a ks = (k : ℕ) → Contains ks k → IsOwn w a k (copy_of r.copies.items k)

  abbrev pub HasCopiesAt : TxActor V → World V → ℕ → Stage V → Type 0
  HasCopiesAt r w a stage.Open = OwnsAll r w a
  HasCopiesAt r w a (stage.Reading l) = OwnsAll r w a
  HasCopiesAt r w a (stage.Trying asked tries) = OwnsAll r w a
  HasCopiesAt r w a (stage.Copying asked) = OwnsAll r w a
  HasCopiesAt r w a (stage.Loading o left) = OwnsLoading r w a o left.items
  HasCopiesAt r w a (stage.Locking homes) = OwnsAll r w a
  HasCopiesAt r w a (stage.Gating homes got tries) = OwnsAll r w a
  HasCopiesAt r w a (stage.Ready homes) = OwnsAll r w a
  HasCopiesAt r w a (stage.Storing homes) = OwnsHomes r w a homes.items
  HasCopiesAt r w a (stage.Homing homes) = OwnsHomes r w a homes.items
  HasCopiesAt r w a s = Unit {0}

  -- In w, what r has of collections at its stage is a's own: of all, until its record is made, and then of those whose bases are still to
  -- be put back. Of a transaction that ends nothing is asked.
  abbrev pub HasCopies : TxActor V → World V → ℕ → Type 0
  HasCopies r w a = HasCopiesAt r w a r.stage

  -- ---- what is left of it
  -- at this stage all is a's own
  abbrev pub IsWhole : Stage V → Type 0
  IsWhole stage.Open = Unit {0}
  IsWhole (stage.Reading l) = Unit {0}
  IsWhole (stage.Trying asked tries) = Unit {0}
  IsWhole (stage.Copying asked) = Unit {0}
  IsWhole (stage.Locking homes) = Unit {0}
  IsWhole (stage.Gating homes got tries) = Unit {0}
  IsWhole (stage.Ready homes) = Unit {0}
  IsWhole s = ⊥

  -- and so are these collections
  abbrev pub IsWholeOf : Stage V → List ℕ → Type 0
  IsWholeOf (stage.Ready homes) ks = Unit {0}
  IsWholeOf (stage.Storing homes) ks = (k : ℕ) → Contains ks k → Contains homes.items k
  IsWholeOf (stage.Homing homes) ks = (k : ℕ) → Contains ks k → Contains homes.items k
  IsWholeOf s ks = ⊥

  -- a transaction that has begun is idle, with no copy, or was under way
  abbrev pub KeepsOpen : Stage V → (before now : List (CopyOfCollection V)) → Type 0
  KeepsOpen stage.Beginning before now = now ≡ []
  KeepsOpen s before now = IsWhole s × (now ≡ before)

  -- From a stage to the next one the copies stand, and the next one asks no more of them; where it asks nothing, they need not stand. What
  -- is read for a call changes with each load, and is no matter of this.
  abbrev pub KeepsFrom : (next last : Stage V) → (before now : List (CopyOfCollection V)) → Type 0
  KeepsFrom stage.Open s before now = KeepsOpen s before now
  KeepsFrom (stage.Reading l) s before now = IsWhole s × (now ≡ before)
  KeepsFrom (stage.Trying asked tries) s before now = IsWhole s × (now ≡ before)
  KeepsFrom (stage.Copying asked) s before now = IsWhole s × (now ≡ before)
  KeepsFrom (stage.Loading o left) s before now = ⊥
  KeepsFrom (stage.Locking homes) s before now = IsWhole s × (now ≡ before)
  KeepsFrom (stage.Gating homes got tries) s before now = IsWhole s × (now ≡ before)
  KeepsFrom (stage.Ready homes) s before now = IsWhole s × (now ≡ before)
  KeepsFrom (stage.Storing homes) s before now = IsWholeOf s homes.items × (now ≡ before)
  KeepsFrom (stage.Homing homes) s before now = IsWholeOf s homes.items × (now ≡ before)
  KeepsFrom t s before now = Unit {0}

  -- a step leaves u of r what u is to have of collections at its stage
  abbrev pub KeepsCopies : TxActor V → TxActor V → Type 0
  KeepsCopies r u = KeepsFrom u.stage r.stage r.copies.items u.copies.items

  -- u is at a stage that asks nothing of the copies
  abbrev pub AsksNothing : TxActor V → Type 0
  AsksNothing u = KeepsFrom u.stage stage.Idle [] u.copies.items

  -- ---- what a call leaves
  -- A location is read next for the call: those that the read set does not judge are left, and nothing else has changed.
  pub record ReadsOn (r u : TxActor V) (t : ActorNotice V) (o : running.CallWithOutcome V) (es : Entries) : Type 0 where
    pub left : VecDeque (ℕ × ℕ) Global
    pub stage : u.stage ≡ stage.Loading o left
    pub items : left.items ≡ left_after r.words.reads.entries es
    pub copies : u.copies.items ≡ r.copies.items
    pub calls : (words.actor_of u.words).calls ≡ (words.actor_of r.words).calls
    pub told : t ≡ told.Quiet

  -- The call is accepted: its outcome, which its copy answers, joins this copy.
  pub record HasAccepted (r u : TxActor V) (t : ActorNotice V) (o : running.CallWithOutcome V) : Type 0 where
    pub stage : u.stage ≡ stage.Open
    pub at : IsAcceptedAt o.place o.outcome r.copies.items u.copies.items
    pub own : (c : CopyOfCollection V) → slice_get r.copies.items o.place ≡ Some c
        → (x : Outcome V) × (o.outcome ≡ Some x) × (c.collection ≡ o.asked.collection) × (answer_of c.copied o.asked.op ≡ Some x)
    pub told : t ≡ told.Answered (Replied o.told)

  -- what judging the locations of a call leaves of r, and its answer
  abbrev pub HasGone : Judged → TxActor V → TxActor V → ActorNotice V → running.CallWithOutcome V → Entries → Type 0
  HasGone All r u t o es = HasAccepted r u t o
  HasGone (Next l) r u t o es = ReadsOn r u t o es
  HasGone (Stale l b v) r u t o es = AsksNothing u

  -- nothing has come of a step
  abbrev pub IsAsBefore : TxActor V → TxActor V → ActorNotice V → Type 0
  IsAsBefore r u t = (u ≡ r) × (t ≡ told.Quiet)

  -- the first location was read with edition v
  abbrev pub HasFound : TxActor V → TxActor V → ActorNotice V → running.CallWithOutcome V → Entries → ℕ → Type 0
  HasFound r u t o [] v = IsAsBefore r u t
  HasFound r u t o (d ∷ es) v =
      ((d.1 ≡ v) × HasGone (judged r.words.reads.entries es) r u t o es) ⊎ ((d.1 ≢ v) × AsksNothing u)

  -- What a step of the load of a call's location leaves of r, at this stage, where the words answered n.
  abbrev pub HasLoaded : TxActor V → TxActor V → ActorNotice V → Stage V → notice.Notice → Type 0
  HasLoaded r u t (stage.Loading o left) (notice.Number v) = HasFound r u t o left.items v
  HasLoaded r u t (stage.Loading o left) (notice.Moved l word) = AsksNothing u ⊎ IsAsBefore r u t
  HasLoaded r u t s n = IsAsBefore r u t

  -- what was read of each collection is, of what there is of it now
  abbrev pub ReadsStill : (before now : List (CopyOfCollection V)) → Type 0
  ReadsStill before now = (w : World V) (a k : ℕ) → IsReadOf w a k (copy_of before k) → IsReadOf w a k (copy_of now k)
