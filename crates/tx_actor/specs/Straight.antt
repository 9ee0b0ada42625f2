-- A put on a key that the transaction has, and whose location it has read: it is accepted at once.
use Rattle.std.specs.Prelude.{◌≡◌, ℕ, ◌+◌, ◌<◌, ◌≤◌, ◌^◌, Bool, true, false, [], ◌∷◌, Some, None}
use Rattle.std.specs.Vec.{vec_capacity, vec_len}
use Rattle.tx_sets.specs.Entries.{lookup}
use Rattle.seq_model.specs.declared.call.Op.{Op}
use Rattle.seq_model.specs.declared.call.Op.TheVariants.{Put}
use Rattle.conflict.specs.declared.outcome.Outcome.{Outcome}
use Rattle.shadow.specs.Memo.{entry_outcome}
use Rattle.step_core.specs.Shown as words
use Rattle.step_core.specs.declared.actor.Actor.{Actor}
use Rattle.actor_parts.specs.declared.copies.PrivateCopy.{PrivateCopy}
use Rattle.actor_parts.specs.PrivateCopy.{answer_of, holds_call}
use Rattle.actor_parts.specs.Footprints.{known_edition, reads_in, writes_in}
use Rattle.actor_parts.specs.Puts.{put_on}
use Rattle.actor_parts.specs.Room.{surely_fits}
use Rattle.tx_actor.specs.declared.actor.TxActor.{TxActor}

module _ {V : Type 0} where
  abbrev pub is_put : Op V → Bool
  is_put (Put k v) = true
  is_put op = false

  -- the outcome of a put on this copy
  abbrev pub put_outcome : PrivateCopy V → Op V → Outcome V
  put_outcome c (Put k v) = put_on c k v
  put_outcome c op = entry_outcome op None

-- The call is a put, which this copy of its collection, whose first location is f, answers. It reads and writes this location alone, which
-- was read with the edition that was copied, and which the sets surely take.
pub record IsPutRead {V : Type 0} (x : Actor) (c : PrivateCopy V) (f : ℕ) (op : Op V) (at : ℕ × ℕ) : Type 0 where
  pub put : is_put op ≡ true
  pub answer : answer_of c op ≡ Some (put_outcome c op)
  pub reads : reads_in c (put_outcome c op) ≡ at.0 ∷ []
  pub writes : writes_in c (put_outcome c op) ≡ at.0 ∷ []
  pub edition : known_edition c at.0 ≡ at.1
  pub read : lookup x.reads.entries (f + at.0) ≡ Some at.1
  pub plain : x.declared ≡ false
  pub fits : surely_fits (words.actor_of x) 1 1 ≡ true
  pub range : f + at.0 < 2 ^ 32
  pub next : at.1 + 1 < 2 ^ 64

-- the call is a put on a key that this copy has, and writes this location alone
pub record CanPut {V : Type 0} (c : PrivateCopy V) (op : Op V) (l : ℕ) : Type 0 where
  pub put : is_put op ≡ true
  pub held : holds_call c op ≡ true
  pub answer : answer_of c op ≡ Some (put_outcome c op)
  pub writes : writes_in c (put_outcome c op) ≡ l ∷ []

-- there is room for a put
pub record HasRoomToPut {V : Type 0} (r : TxActor V) : Type 0 where
  pub calls : vec_len r.calls < vec_capacity r.calls
  pub word_calls : vec_len r.words.calls + 1 ≤ vec_capacity r.words.calls
  pub writes : 1 ≤ r.words.writes.room
