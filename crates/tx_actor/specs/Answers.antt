-- What the acceptance of a call on a copied collection takes, what it leaves, and where a call may continue.
use Rattle.std.specs.Prelude.{◌≡◌, ℕ, ◌+◌, ◌<◌, ◌≤◌, true, false, List, ◌∷◌, Option, Some, None, length, slice_get, slice_set}
use Rattle.std.specs.Vec.{vec_capacity, vec_len}
use Rattle.conflict.specs.declared.outcome.Outcome.{Outcome}
use Rattle.tx_machine.specs.Boosted.{Accept}
use Rattle.replay_log.specs.Contents.{content}
use Rattle.replay_log.specs.Guards.{Allows}
use Rattle.replay_log.specs.Worlds.{World, actor_of, new_in, outcome_at, reply_of}
use Rattle.tx_actor.specs.declared.actor.CallWithOutcome as running
use Rattle.actor_parts.specs.declared.copies.CopyOfCollection.{CopyOfCollection}
use Rattle.tx_actor.specs.declared.actor.TxActor.{TxActor}
use Rattle.tx_sets.specs.Entries.{Entries, locations, lookup}
use Rattle.tx_sets.specs.declared.access_set.TheConstants.{LOCATION_LIMIT}
use Rattle.tx_machine.specs.Actor.{Open as AtRest}
use Rattle.step_core.specs.Shown as words
use Rattle.step_core.specs.declared.actor.Actor.{Actor}
use Rattle.step_core.specs.declared.actor.Place.{Place}
use Rattle.step_core.specs.declared.actor.Place.TheVariants as place
use Rattle.actor_parts.specs.Requests.{HasNoReads}
use Rattle.actor_parts.specs.declared.judged.Judged.{Judged}
use Rattle.actor_parts.specs.declared.judged.Judged.TheVariants.{All, Next}
use Rattle.actor_parts.specs.Judged.{judged}
use Rattle.actor_parts.specs.Accepts.{written}
use Rattle.actor_parts.specs.PrivateCopy.{IsAccepted, IsReady, answer_of, holds_call}
use Rattle.actor_parts.specs.Footprints.{reads_in}
use Rattle.tx_actor.specs.Running.{answered_of, asked_of}
use Rattle.actor_parts.specs.Writes.{MayWrite, written_as}

-- The copy at this place has accepted the outcome, if there is one, and the others are as they were.
abbrev pub IsAcceptedAt : {V : Type 0} → ℕ → Option (Outcome V) → (before now : List (CopyOfCollection V)) → Type 0
IsAcceptedAt {V} i None before now = now ≡ before
IsAcceptedAt {V} i (Some o) before now =
    (c d : CopyOfCollection V) × (slice_get before i ≡ Some c) × (d.collection ≡ c.collection) × IsAccepted o c.copied d.copied
    × (holds_call c.copied o.op ≡ true) × (now ≡ slice_set before i d)

-- What judging a call's locations leaves of the copies: its outcome joins its copy where the call is accepted, and else all stand.
abbrev pub CopiesAfter : {V : Type 0} → Judged → running.CallWithOutcome V → (before now : List (CopyOfCollection V)) → Type 0
CopiesAfter {V} All o before now = IsAcceptedAt o.place o.outcome before now
CopiesAfter {V} j o before now = now ≡ before

-- All that accepting the call takes is there: room for its writes and for its entry among the calls, and in the copy at its place its
-- outcome is ready, which is what that copy of its collection answers.
pub record CanAccept {V : Type 0} (r : TxActor V) (o : running.CallWithOutcome V) : Type 0 where
  pub writes : MayWrite r.words o.writes.items
  pub calls : vec_len r.calls < vec_capacity r.calls
  pub place : o.place < length r.copies.items
  pub ready : (c : CopyOfCollection V) (x : Outcome V) → slice_get r.copies.items o.place ≡ Some c → o.outcome ≡ Some x
      → IsReady x c.copied × (holds_call c.copied x.op ≡ true)
  pub kept : (x : Outcome V) → o.outcome ≡ Some x → x.reply ≡ reply_of (answered_of o)
  pub told : o.told ≡ reply_of (answered_of o)
  pub own : (c : CopyOfCollection V) → slice_get r.copies.items o.place ≡ Some c
      → (x : Outcome V) × (o.outcome ≡ Some x) × (c.collection ≡ o.asked.collection) × (answer_of c.copied o.asked.op ≡ Some x)

-- The call is made ready: it can be accepted, and before that there is room to read all that it reads.
pub record IsPrepared {V : Type 0} (r : TxActor V) (o : running.CallWithOutcome V) : Type 0 where
  pub accept : CanAccept r o
  pub calls : (c : CopyOfCollection V) (x : Outcome V) → slice_get r.copies.items o.place ≡ Some c → o.outcome ≡ Some x
      → vec_len r.words.calls + (length (reads_in c.copied x) + length o.writes.items) ≤ vec_capacity r.words.calls
  pub reads : (c : CopyOfCollection V) (x : Outcome V) → slice_get r.copies.items o.place ≡ Some c → o.outcome ≡ Some x
      → r.words.declared ≡ false → length (reads_in c.copied x) ≤ r.words.reads.room

-- A word actor has room to read these locations one after another, and for so many writes after them; they fit its read set.
pub record HasRoomToLoad (x : Actor) (es : Entries) (writes : ℕ) : Type 0 where
  pub calls : vec_len x.calls + (length es + writes) ≤ vec_capacity x.calls
  pub reads : x.declared ≡ false → length es ≤ x.reads.room
  pub few : x.declared ≡ false → length x.reads.entries + length (new_in x.reads.entries (locations es)) ≤ LOCATION_LIMIT
  pub none : HasNoReads x

-- the next load is of the first of these locations
abbrev pub IsLoadOf : Place → Entries → Type 0
IsLoadOf (place.Look l) (d ∷ es) = l ≡ d.0
IsLoadOf (place.Fetch l k) (d ∷ es) = l ≡ d.0
IsLoadOf (place.Again l k v) (d ∷ es) = l ≡ d.0
IsLoadOf p es = ⊥

-- the actor, once its word actor is idle
abbrev pub at_rest : {V : Type 0} → TxActor V → TxActor V
at_rest r = record r { words = record r.words { place = place.Open } }

-- The first of these locations is being read, there is room for the others, and once all are read the call can be accepted.
pub record CanLoad {V : Type 0} (r : TxActor V) (o : running.CallWithOutcome V) (left : Entries) : Type 0 where
  pub place : IsLoadOf r.words.place left
  pub room : HasRoomToLoad r.words left (length o.writes.items)
  pub accept : CanAccept (at_rest r) o

-- In this world the call may be accepted: what it reads has been read, with the copied editions; its outcome is the world's, and its
-- writes are the world's.
pub record MayAccept {V : Type 0} (w : World V) (a : ℕ) (o : running.CallWithOutcome V) : Type 0 where
  pub guard : Allows (content w.words w.blocks) w.boosted (Accept a (asked_of o.asked))
  pub outcome : outcome_at w a (asked_of o.asked) ≡ answered_of o
  pub writes : written (actor_of w a) (w.boosted.shadows a).editions ((content w.words w.blocks).writes (answered_of o))
      ≡ written_as (actor_of w a) o.writes.items

-- In this world, which has x as its outcome, a call may continue whose locations, with these editions, are judged by the read set of y:
-- with all of them there it may be accepted, and x is its own outcome; the one that is to be read is in no set, and its word actor is idle.
pub record MayAnswer {V : Type 0} (w : World V) (a : ℕ) (y : Actor) (x : Option (Outcome V)) (o : running.CallWithOutcome V) (es : Entries)
    : Type 0 where
  pub accepts : judged y.reads.entries es ≡ All → MayAccept w a o × (x ≡ o.outcome)
  pub reads : (l : ℕ) → judged y.reads.entries es ≡ Next l
      → ((words.actor_of y).place ≡ AtRest) × (lookup y.writes.entries l ≡ None) × (lookup y.reads.entries l ≡ None)
