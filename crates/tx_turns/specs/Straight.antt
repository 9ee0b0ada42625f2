-- Steps that are taken in straight code: between them the actor is a term of the proof, which the program stores nowhere.
use Rattle.replay_log.specs.declared.base.Base.{Base}
use Rattle.std.specs.Prelude.{◌≡◌, ℕ, ◌≤◌, List, [], ◌∷◌, Option, Some, None, Bool, true, false}
use Rattle.atomic_table.specs.Table.{rest}
use Rattle.vlock_word.specs.declared.lock_word.LockWord.{LockWord}
use Rattle.vlock_word.specs.declared.lock_word.LockWord.TheVariants.{Free, Locked}
use Rattle.step_core.specs.declared.actor.Place.{Place}
use Rattle.tx_actor.specs.declared.actor.Stage as own
use Rattle.tx_actor.specs.declared.actor.Stage.TheVariants as stage
use Rattle.tx_actor.specs.declared.actor.ActorNotice.{ActorNotice}
use Rattle.tx_actor.specs.declared.actor.TxActor.{TxActor}
use Rattle.tx_actor.specs.declared.taking.KeyedCall.{KeyedCall}
use Rattle.tx_actor.specs.Copying.{CanCopy}
use Rattle.tx_actor.specs.Running.{at}
use Rattle.tx_actor.specs.Taking.{IsTakenCall}
use Rattle.shared_table.specs.declared.seat.Seat.{Seat}
use Rattle.shared_table.specs.declared.table.TxTable.{TxTable}
use Rattle.shared_table.specs.Seated.{Takes, opening_of, out, view}
use Rattle.tx_turns.specs.Ties.{Ties, laid_in}
use Rattle.tx_turns.specs.Own.{HasOwn}
use Rattle.tx_turns.specs.Driven.{Driven, LeadsOn, Stops}
use Rattle.seq_model.specs.declared.record.Record.{Record}
use Rattle.replay_log.specs.Seats.{World}
use Rattle.tx_actor.specs.declared.actor.ActorNotice.TheVariants as told

-- A location that was read passes the check of a transaction that began at rv: its lock word is no newer, and it is free, or locked by the
-- transaction itself, which has it in its write set.
abbrev pub Passes : ℕ → LockWord → Option ℕ → Type 0
Passes rv (Free k) own = k ≤ rv
Passes rv (Locked k) (Some value) = k ≤ rv
Passes rv (Locked k) None = ⊥

-- the locks of a commit are taken, and what it has read is checked
abbrev pub is_locking : {V : Type 0} → own.Stage V → Bool
is_locking (stage.Locking homes) = true
is_locking s = false

-- the values of a commit are stored, after the first
abbrev pub is_storing : {V : Type 0} → own.Stage V → Bool
is_storing (stage.Storing homes) = true
is_storing s = false

module _ {V : Type 0} where
  -- r, whose word actor stands at this place
  abbrev pub at_place : TxActor V → Place → TxActor V
  at_place r p = record r { words = record r.words { place = p } }

  -- The seat s took turns that made no record, and is u now, which runs r; the last answered n, and none before it answered anything.
  pub record HasLed (t : TxTable V) (s u : Seat V) (r : TxActor V) (n : ActorNotice V) (bs : List (Base V)) : Type 0 where
    pub ties : Ties t u r
    pub own : HasOwn t u r bs
    pub leads : LeadsOn (opening_of t) s u n

  -- Turns that led to the seat u, answered m and made this record, if any, lead on to z so.
  abbrev pub LeadsFrom : World V → Seat V → Seat V → (m n : ActorNotice V) → (before now : Option (Record V)) → Type 0
  LeadsFrom o u z m n before now = (s : Seat V) → Driven o s u m before → Driven o s z n now

  -- and those that answered nothing
  abbrev pub LeadsBy : World V → Seat V → Seat V → ActorNotice V → (before now : Option (Record V)) → Type 0
  LeadsBy o u z n before now = LeadsFrom o u z told.Quiet n before now

  -- and so whatever record they made, which is unchanged
  abbrev pub LeadsAllFrom : World V → Seat V → Seat V → (m n : ActorNotice V) → Type 0
  LeadsAllFrom o u z m n = (d : Option (Record V)) → LeadsFrom o u z m n d d

  abbrev pub LeadsAll : World V → Seat V → Seat V → ActorNotice V → Type 0
  LeadsAll o u z n = LeadsAllFrom o u z told.Quiet n

  -- or they stop there as an allocation fails
  abbrev pub WantsBy : World V → Seat V → Seat V → Option (Record V) → Type 0
  WantsBy o u z before = (s : Seat V) → Driven o s u told.Quiet before → Stops o s z

  -- Turns have led to the seat u that answered n and made this record.
  abbrev pub IsLedTo : World V → Seat V → ActorNotice V → Option (Record V) → Type 0
  IsLedTo o u n d = (s : Seat V) × Driven o s u n d

  -- ---- a call whose gate is tried
  -- The seat s took turns that made no record, and is u now, which runs r; the last answered n, and none before it answered anything.
  pub record HasDriven (t : TxTable V) (s u : Seat V) (r : TxActor V) (n : ActorNotice V) (bs : List (Base V)) : Type 0 where
    pub ties : Ties t u r
    pub own : HasOwn t u r bs
    pub leads : LeadsAll (opening_of t) s u n

  -- Or there was no memory: its request is being aborted, as u is.
  pub record HasStopped (t : TxTable V) (s u : Seat V) (r : TxActor V) (bs : List (Base V)) : Type 0 where
    pub ties : Ties t u r
    pub own : HasOwn t u r bs
    pub wants : WantsBy (opening_of t) s u None

  -- A seat whose actor held the gate of a call has put it back, and is m now. What the call touches was taken of the base before, so the
  -- actor is u.
  pub record HasPut (t : TxTable V) (m : Seat V) (u : TxActor V) (p : KeyedCall V) : Type 0 where
    pub seat : Seat V
    pub actor : TxActor V
    pub base : Base V
    pub idle : actor.stage ≡ stage.Idle
    pub ties : Ties t seat (at actor (stage.Copying p.asked))
    pub own : HasOwn t seat (at actor (stage.Copying p.asked)) (base ∷ [])
    pub takes : Takes (opening_of t) seat (view seat).clock 1 None (rest (out seat)) m
    pub can : CanCopy (laid_in t) actor base p.asked
    pub taken : IsTakenCall (laid_in t) actor u base p
