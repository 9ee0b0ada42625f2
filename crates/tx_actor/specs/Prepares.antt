-- What making a call ready leaves of an actor, and what it gives.
use Rattle.std.specs.Prelude.{◌≡◌, ℕ, ◌+◌, ◌<◌, ◌≤◌, ◌^◌, Bool, true, false, List, Option, Some, None, IsSome, length, slice_get}
use Rattle.std.specs.Vec.{vec_capacity, vec_len}
use Rattle.std.specs.declared.alloc.Global.{Global}
use Rattle.std.specs.declared.collections.VecDeque.{VecDeque}
use Rattle.tx_sets.specs.declared.access_set.TheConstants.{LOCATION_LIMIT}
use Rattle.seq_model.specs.declared.call.Op.{Op}
use Rattle.conflict.specs.declared.outcome.Outcome.{Outcome}
use Rattle.replay_log.specs.Base.{stripes_of}
use Rattle.replay_log.specs.Contents.{shifted}
use Rattle.replay_log.specs.Worlds as worlds
use Rattle.step_core.specs.Shown as words
use Rattle.step_core.specs.declared.actor.Place.TheVariants as place
use Rattle.actor_parts.specs.declared.copies.CopyOfCollection.{CopyOfCollection}
use Rattle.tx_actor.specs.declared.actor.TxActor.{TxActor}
use Rattle.actor_parts.specs.declared.copies.PrivateCopy.{PrivateCopy}
use Rattle.tx_actor.specs.declared.actor.CallWithOutcome as running
use Rattle.tx_actor.specs.declared.actor.CollectionCall.{CollectionCall}
use Rattle.tx_actor.specs.declared.prepares.Prepared.{Prepared}
use Rattle.tx_actor.specs.Answers.{IsPrepared}
use Rattle.actor_parts.specs.PrivateCopy.{IsReady, answer_of, holds_call, holds_of}
use Rattle.actor_parts.specs.Footprints.{base_in, location_count, reads_in, with_known, writes_in}
use Rattle.actor_parts.specs.CopyList.{AreKept, copy_of}
use Rattle.actor_parts.specs.Writes.{with_next}

-- The actor u is r, but for its room and what is ready in its copies.
pub record IsAlike {V : Type 0} (r u : TxActor V) : Type 0 where
  pub words : words.actor_of u.words ≡ words.actor_of r.words
  pub place : u.words.place ≡ r.words.place
  pub stage : u.stage ≡ r.stage
  pub rv : u.rv ≡ r.rv
  pub wv : u.wv ≡ r.wv
  pub cause : u.cause ≡ r.cause
  pub calls : u.calls.items ≡ r.calls.items
  pub copies : AreKept r.copies.items u.copies.items

-- There is room for a call more, with n locations to be read and m to be written, and its outcome is ready in the copy at this place.
pub record HasRoomFor {V : Type 0} (u : TxActor V) (i : ℕ) (o : Outcome V) (n m : ℕ) : Type 0 where
  pub calls : vec_len u.calls < vec_capacity u.calls
  pub word_calls : vec_len u.words.calls + (n + m) ≤ vec_capacity u.words.calls
  pub reads : u.words.declared ≡ false → n ≤ u.words.reads.room
  pub writes : m ≤ u.words.writes.room
  pub few : length u.words.writes.entries ≤ LOCATION_LIMIT
  pub ready : (c : CopyOfCollection V) → slice_get u.copies.items i ≡ Some c → IsReady o c.copied

-- A call on the copy at this place, of a collection that begins at location f, may be made ready: the copy holds and answers it, its
-- locations are numbers, and the word actor is idle; a declared reader asks for no change.
pub record MayPrepare {V : Type 0} (r : TxActor V) (i f : ℕ) (op : Op V) : Type 0 where
  pub there : i < length r.copies.items
  pub rests : r.words.place ≡ place.Open
  pub may : worlds.may_ask (words.actor_of r.words) op ≡ true
  pub stripes : (c : CopyOfCollection V) → slice_get r.copies.items i ≡ Some c → 0 < stripes_of (base_in c.copied)
  pub range : (c : CopyOfCollection V) → slice_get r.copies.items i ≡ Some c → f + location_count c.copied ≤ 2 ^ 32
  pub held : (c : CopyOfCollection V) → slice_get r.copies.items i ≡ Some c → holds_call c.copied op ≡ true
  pub known : (c : CopyOfCollection V) → slice_get r.copies.items i ≡ Some c → IsSome (answer_of c.copied op)

-- whether the locations of an outcome fit the sets of r
abbrev pub fits : {V : Type 0} → TxActor V → (f : ℕ) → PrivateCopy V → Outcome V → Bool
fits r f c o = worlds.has_room (words.actor_of r.words) (shifted f (reads_in c o)) (shifted f (writes_in c o))

-- What u has ready of a call on the copy c at this place: its outcome, what it writes, and what is left to be judged.
pub record IsReadyCall {V : Type 0} (r u : TxActor V) (i f : ℕ) (op : Op V) (c : CopyOfCollection V) (p : Prepared V) : Type 0 where
  pub outcome : Outcome V
  pub answer : answer_of c.copied op ≡ Some outcome
  pub fits : fits r f c.copied outcome ≡ true
  pub is : p.call.outcome ≡ Some outcome
  pub at : p.call.place ≡ i
  pub collection : p.call.asked.collection ≡ c.collection
  pub asked : p.call.asked.op ≡ op
  pub left : p.left.items ≡ with_known c.copied f (reads_in c.copied outcome)
  pub writes : p.call.writes.items ≡ with_next c.copied f (writes_in c.copied outcome)
  pub prepared : IsPrepared u p.call

-- what is ready, of the call asked, on the copy at this place
abbrev pub prepared_of : {V : Type 0} → Prepared V → CollectionCall V → ℕ → Prepared V
prepared_of x asked i = record x { call = record x.call { asked = asked; place = i } }

-- the call is ready, or its locations don't fit
abbrev pub ArePrepared : {V : Type 0} → (r u : TxActor V) → (i f : ℕ) → Op V → CopyOfCollection V → Option (Prepared V) → Type 0
ArePrepared {V} r u i f op c None = (o : Outcome V) × (answer_of c.copied op ≡ Some o) × (fits r f c.copied o ≡ false)
ArePrepared {V} r u i f op c (Some p) = IsReadyCall r u i f op c p

-- The same of the call asked, which has become d, with what is left to be judged of it.
abbrev pub AreReadied : {V : Type 0} → (r u : TxActor V) → (i f : ℕ) → CollectionCall V → CopyOfCollection V → running.CallWithOutcome V
    → Option (VecDeque (ℕ × ℕ) Global) → Type 0
AreReadied {V} r u i f asked c d None = ArePrepared r u i f asked.op c None
AreReadied {V} r u i f asked c d (Some left) =
    let x : Prepared V = record { call = d; left = left } in
    (x ≡ prepared_of x asked i) × (asked.collection ≡ c.collection → IsReadyCall r u i f asked.op c (prepared_of x asked i))

-- The copy of collection k stands at this place, the first of it, and holds the call.
pub record IsHeldAt {V : Type 0} (cs : List (CopyOfCollection V)) (i k : ℕ) (op : Op V) : Type 0 where
  pub there : i < length cs
  pub copy : CopyOfCollection V
  pub at : slice_get cs i ≡ Some copy
  pub of : copy_of cs k ≡ Some copy.copied
  pub collection : copy.collection ≡ k
  pub holds : holds_call copy.copied op ≡ true

-- where the copy of collection k stands that holds the call; none, if there is no such
abbrev pub IsHeldPosition : {V : Type 0} → List (CopyOfCollection V) → ℕ → Op V → Option ℕ → Type 0
IsHeldPosition {V} cs k op None = holds_of (copy_of cs k) op ≡ false
IsHeldPosition {V} cs k op (Some i) = IsHeldAt cs i k op
