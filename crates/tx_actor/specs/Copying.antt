-- What a call makes of an actor that holds the gate of its collection, and is given the base.
use Rattle.std.specs.Prelude.{◌≡◌, ◌⊎◌, ℕ, ◌+◌, ◌<◌, ◌≤◌, ◌^◌, true, false, Option, Some, None, IsSome, length}
use Rattle.std.specs.Global.{Vec}
use Rattle.std.specs.declared.alloc.Global.{Global}
use Rattle.std.specs.declared.collections.VecDeque.{VecDeque}
use Rattle.seq_model.specs.declared.refusal.Refusal.TheVariants as refusal
use Rattle.conflict.specs.declared.outcome.Outcome.{Outcome}
use Rattle.replay_log.specs.declared.base.Base.{Base}
use Rattle.replay_log.specs.Base.{outcome_of, shown_of, stripes_of}
use Rattle.replay_log.specs.Parts.{kind_of}
use Rattle.replay_log.specs.Contents.{Block, block_of, first_of}
use Rattle.replay_log.specs.Worlds as worlds
use Rattle.replay_log.specs.Worlds.{World, actor_of, step_at}
use Rattle.step_core.specs.Shown as words
use Rattle.step_core.specs.declared.actor.Place.TheVariants as place
use Rattle.actor_laws.specs.Bases.{IsBaseOf}
use Rattle.actor_parts.specs.Blocks.{BlocksView, IsLaid}
use Rattle.actor_parts.specs.declared.copies.PrivateCopy.{PrivateCopy}
use Rattle.actor_parts.specs.declared.copies.CopyOfCollection.{CopyOfCollection}
use Rattle.actor_parts.specs.declared.copies.BaseExcerpt.{BaseExcerpt}
use Rattle.actor_parts.specs.CopyAtGate.{CopiesGoOn, IsCopyFor, IsTaken}
use Rattle.actor_parts.specs.PrivateCopy.{IsFound, answer_of, holds_call, holds_of}
use Rattle.actor_parts.specs.Footprints.{base_in, location_count}
use Rattle.actor_parts.specs.CopyList.{HaveSame, copy_of}
use Rattle.actor_parts.specs.Owns.{AreOfBlocks}
use Rattle.actor_parts.specs.Sizes.{SizesAs}
use Rattle.actor_parts.specs.Taking.{IsTakenAt, copy_with, fits_base}
use Rattle.tx_actor.specs.declared.actor.CallWithOutcome as running
use Rattle.tx_actor.specs.declared.actor.CollectionCall.{CollectionCall}
use Rattle.tx_actor.specs.declared.actor.Stage.{Stage}
use Rattle.tx_actor.specs.declared.actor.Stage.TheVariants as stage
use Rattle.tx_actor.specs.declared.actor.ActorNotice.{ActorNotice}
use Rattle.tx_actor.specs.declared.actor.ActorNotice.TheVariants as told
use Rattle.tx_actor.specs.declared.actor.TxActor.{TxActor}
use Rattle.tx_actor.specs.declared.prepares.Prepared.{Prepared}
use Rattle.actor_parts.specs.Judged.{judged}
use Rattle.tx_actor.specs.CopiesByStage.{HasGone}
use Rattle.tx_actor.specs.Prepares.{IsAlike, IsReadyCall, prepared_of}
use Rattle.tx_actor.specs.Running.{Runs, asked_of, at, notice_of, seat_of}

-- What is copied is of a base of the collection's block, and the call is one that this collection answers, which has not what the call
-- touches, and may be asked. Whatever is copied of the base for it holds the call.
pub record CanCopy {V : Type 0} (v : BlocksView) (r : TxActor V) (base : Base V) (asked : CollectionCall V) : Type 0 where
  pub rests : r.words.place ≡ place.Open
  pub may : worlds.may_ask (words.actor_of r.words) asked.op ≡ true
  pub blocks : AreOfBlocks v r.copies.items
  pub block : Block
  pub there : block_of v.blocks asked.collection ≡ Some block
  pub among : asked.collection < length v.blocks
  pub stripes : 0 < block.stripes
  pub is : IsBaseOf block base
  pub known : worlds.is_known (Some block) asked.op ≡ true
  pub unheld : holds_of (copy_of r.copies.items asked.collection) asked.op ≡ false
  pub holds : (x : BaseExcerpt V) (d : PrivateCopy V) → IsFound base asked.op x
      → IsTaken block.stripes x (copy_of r.copies.items asked.collection) d → holds_call d asked.op ≡ true

module _ {V : Type 0} where
  -- u is r, but for its room, and for its copies, which show the same pieces
  pub record IsUnmoved (r u : TxActor V) : Type 0 where
    pub words : words.actor_of u.words ≡ words.actor_of r.words
    pub place : u.words.place ≡ r.words.place
    pub rv : u.rv ≡ r.rv
    pub wv : u.wv ≡ r.wv
    pub cause : u.cause ≡ r.cause
    pub calls : u.calls.items ≡ r.calls.items
    pub pieces : HaveSame r.copies.items u.copies.items

  -- What was found is taken, for a call that is ready now, of the copy at place i.
  pub record IsReadyAt (r u : TxActor V) (n f : ℕ) (found : BaseExcerpt V) (asked : CollectionCall V) (i : ℕ) (x : Prepared V) : Type 0
    where
      pub copies : Vec (CopyOfCollection V)
      pub at : IsTakenAt n asked.collection found i r.copies.items copies.items
      pub alike : IsAlike (record r { copies = copies }) u
      pub ready : IsReadyCall (record r { copies = copies }) u i f asked.op (copy_with asked.collection at.copy) (prepared_of x asked i)

  -- So it is of the call asked, which has become c, with what is left to be judged of it.
  abbrev pub IsReadyIn : (r u : TxActor V) (n f : ℕ) → BaseExcerpt V → CollectionCall V → running.CallWithOutcome V
      → VecDeque (ℕ × ℕ) Global → Type 0
  IsReadyIn r u n f found asked c left =
      let x : Prepared V = record { call = c; left = left } in
      (i : ℕ) × (x ≡ prepared_of x asked i) × IsReadyAt r u n f found asked i x

  -- The call is asked of a base in n stripes, of a collection that begins at location f, and this was found of it: so it may be taken.
  pub record MayTake (r : TxActor V) (n f : ℕ) (found : BaseExcerpt V) (asked : CollectionCall V) : Type 0 where
    pub rests : r.words.place ≡ place.Open
    pub may : worlds.may_ask (words.actor_of r.words) asked.op ≡ true
    pub base : Base V
    pub is : IsFound base asked.op found
    pub stripes : 0 < n
    pub kinds : (c : PrivateCopy V) → copy_of r.copies.items asked.collection ≡ Some c
        → kind_of (shown_of (base_in c)) ≡ kind_of (shown_of base)
    pub unheld : holds_of (copy_of r.copies.items asked.collection) asked.op ≡ false
    pub copy : (d : PrivateCopy V) → IsTaken n found (copy_of r.copies.items asked.collection) d
        → (holds_call d asked.op ≡ true) × (0 < stripes_of (base_in d)) × (f + location_count d ≤ 2 ^ 32) × IsSome (answer_of d asked.op)

  -- what the call touches of the base is taken, or the locations of the call don't fit the sets
  abbrev pub AreReadyAt : BlocksView → (r u : TxActor V) → Base V → CollectionCall V → Option (ℕ × Prepared V) → Type 0
  AreReadyAt v r u base asked None =
      (u ≡ r) × ((o : Outcome V) × (outcome_of asked.op (shown_of base) ≡ Some o)
      × (fits_base r.words base (first_of v.words v.blocks asked.collection) o ≡ false))
  AreReadyAt v r u base asked (Some p) =
      (b : Block) × (x : BaseExcerpt V) × (block_of v.blocks asked.collection ≡ Some b) × IsFound base asked.op x
      × IsReadyAt r u b.stripes (first_of v.words v.blocks asked.collection) x asked p.0 p.1

  -- The same of the call asked, which has become c.
  abbrev pub AreReadyIn : BlocksView → (r u : TxActor V) → Base V → CollectionCall V → running.CallWithOutcome V
      → Option (VecDeque (ℕ × ℕ) Global) → Type 0
  AreReadyIn v r u base asked c None = AreReadyAt v r u base asked None
  AreReadyIn v r u base asked c (Some left) =
      let x : Prepared V = record { call = c; left = left } in
      (i : ℕ) × (x ≡ prepared_of x asked i) × AreReadyAt v r u base asked (Some (i, x))

  -- A world in which the gate of the call is held, and the base is that of its collection: what is copied is the transaction's own or
  -- doomed, the call continues by it, and its locations fit the sets where those on the base do.
  pub record MayCopy (v : BlocksView) (w : World V) (a : ℕ) (r : TxActor V) (base : Base V) (asked : CollectionCall V) : Type 0 where
    pub copy : (b : Block) (x : BaseExcerpt V) (d : PrivateCopy V) → block_of v.blocks asked.collection ≡ Some b → IsFound base asked.op x
        → IsTaken b.stripes x (copy_of r.copies.items asked.collection) d → IsCopyFor w a b (asked_of asked) d
    pub goes_on : CopiesGoOn w a (asked_of asked)
    pub sizes : (o : Outcome V) → outcome_of asked.op (shown_of base) ≡ Some o → SizesAs w a (asked_of asked) base o

  -- In every such world the actor is, after the step, what the world makes of its seat.
  abbrev pub StepsOn : BlocksView → TxActor V → TxActor V → ActorNotice V → Base V → CollectionCall V → Type 0
  StepsOn v r u t base asked =
      (a : ℕ) (w : World V) → IsLaid v w → Runs a r w → MayCopy v w a r base asked →
      let f = step_at w a (seat_of r) (worlds.Copying (asked_of asked)) in
      Runs a u f.0 × (notice_of a t ≡ f.1)

  abbrev pub CanCopyAt : BlocksView → TxActor V → Base V → Stage V → Type 0
  CanCopyAt v r base (stage.Copying asked) = CanCopy v r base asked
  CanCopyAt v r base s = Unit {0}

  abbrev pub StepsOnAt : BlocksView → TxActor V → TxActor V → ActorNotice V → Base V → Stage V → Type 0
  StepsOnAt v r u t base (stage.Copying asked) = StepsOn v r u t base asked
  StepsOnAt v r u t base s = (u ≡ r) × (t ≡ told.Quiet)

  -- A call that is ready now, of a copy that was taken for it: how it is judged is what is left of it, and what is answered.
  pub record HasGoneOn (v : BlocksView) (r u : TxActor V) (t : ActorNotice V) (base : Base V) (asked : CollectionCall V) : Type 0 where
    pub block : Block
    pub found : BaseExcerpt V
    pub at : ℕ
    pub call : Prepared V
    pub middle : TxActor V
    pub there : block_of v.blocks asked.collection ≡ Some block
    pub is : IsFound base asked.op found
    pub ready : IsReadyAt r middle block.stripes (first_of v.words v.blocks asked.collection) found asked at call
    pub goes : let p = prepared_of call asked at in
        HasGone (judged middle.words.reads.entries p.left.items) middle u t p.call p.left.items

  -- What the step leaves of the copies: all of them, of a call that is TooLong.
  abbrev pub HasTaken : BlocksView → TxActor V → TxActor V → ActorNotice V → Base V → CollectionCall V → Type 0
  HasTaken v r u t base asked =
      ((u.stage ≡ stage.Open) × (u.copies.items ≡ r.copies.items) × (t ≡ told.Refused refusal.TooLong)) ⊎ HasGoneOn v r u t base asked

  abbrev pub HasTakenAt : BlocksView → TxActor V → TxActor V → ActorNotice V → Base V → Stage V → Type 0
  HasTakenAt v r u t base (stage.Copying asked) = HasTaken v (at r stage.Idle) u t base asked
  HasTakenAt v r u t base s = u ≡ r
