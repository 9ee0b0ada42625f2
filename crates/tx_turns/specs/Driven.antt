-- The turns that a seat takes for a request of its actor, and the result of the request.
use Rattle.std.specs.Prelude.{◌≡◌, ◌≢◌, ◌⊎◌, ℕ, ◌<◌, ◌≤◌, Bool, true, false, not, List, [], ◌∷◌, ◌++◌, Option, Some, None}
use Rattle.tx_machine.specs.Actor.{Actor, Place, Check, clock_limit}
use Rattle.seq_model.specs.declared.call.Call.{Call}
use Rattle.seq_model.specs.declared.call.Op.{Op}
use Rattle.seq_model.specs.declared.call.Op.TheVariants.{Read, Write}
use Rattle.seq_model.specs.declared.call.Reply.{Reply}
use Rattle.seq_model.specs.declared.event.Answer.TheVariants as answer
use Rattle.seq_model.specs.declared.event.Event.{Event}
use Rattle.seq_model.specs.declared.event.Event.TheVariants.{Step}
use Rattle.seq_model.specs.declared.record.Record.{Record}
use Rattle.seq_model.specs.declared.refusal.Refusal.{Refusal}
use Rattle.seq_model.specs.declared.refusal.Refusal.TheVariants.{Moved, Busy, Stale, GateBusy, Invalid, Memory as OutOfMemory, Exhausted}
use Rattle.replay_log.specs.Seats as worlds
use Rattle.replay_log.specs.Seats.{Ended, World, Stage, Closing, Loading, actor_of}
use Rattle.replay_log.specs.Worlds.{happens, run, why}
use Rattle.replay_log.specs.WorldProgress.{left_of}
use Rattle.replay_log.specs.WorldRefusals.{IsCause}
use Rattle.actor_laws.specs.Own.{Alike}
use Rattle.actor_parts.specs.Dispatch.{next_of}
use Rattle.actor_parts.specs.declared.next.Next.{Next}
use Rattle.actor_parts.specs.declared.next.Next.TheVariants as next
use Rattle.tx_actor.specs.Running.{notice_of}
use Rattle.tx_actor.specs.declared.actor.Stage as own
use Rattle.tx_actor.specs.declared.actor.Stage.TheVariants as stage
use Rattle.tx_actor.specs.declared.actor.ActorNotice.{ActorNotice}
use Rattle.tx_actor.specs.declared.actor.ActorNotice.TheVariants as told
use Rattle.shared_table.specs.declared.seat.Seat.{Seat}
use Rattle.shared_table.specs.Seated.{IsSameSeat, actor, acts, view}
use Rattle.shared_table.specs.Turns.{asked_all, lone}
use Rattle.shared_table.specs.declared.view.Turn.{Turn}
use Rattle.tx_turns.specs.RequestStep.{Starved}
use Rattle.tx_turns.specs.Ties.{commits}
use Rattle.tx_actor.specs.declared.actor.TxActor.{TxActor}
use Rattle.actor_laws.specs.Courses.{ComesTo, latest}
use Rattle.actor_laws.specs.KnownStages.{KnownStage, Rests, Begins, Stands, Calls, Commits, Ends, IsMistaken, known_stage}
use Rattle.tx_turns.specs.RequestHistory.{requests_of}

-- a commit that has its number checks what it has read, or has done so: the number is no higher than this clock
abbrev pub IsStampedAt : ℕ → Actor → Place → Type 0
IsStampedAt k y (Check ls) = y.wv ≤ k
IsStampedAt k y p = Unit {0}

abbrev pub IsStamped : ℕ → Actor → Type 0
IsStamped k y = IsStampedAt k y y.place

-- the turn takes memory: a gate's base comes into hand, a call copies of it, or bases are prepared to be put back
abbrev pub WantsMemory : Next → Type 0
WantsMemory (next.TryGate k) = Unit {0}
WantsMemory (next.Copy k) = Unit {0}
WantsMemory next.FirstStore = Unit {0}
WantsMemory n = ⊥

-- the turn is on a gate
abbrev pub IsOnGate : Next → Type 0
IsOnGate next.Nothing = ⊥
IsOnGate next.Word = ⊥
IsOnGate next.FirstStore = ⊥
IsOnGate n = Unit {0}

-- nothing comes of a step on the words at this stage that answered nothing
abbrev pub is_still : {V : Type 0} → own.Stage V → Bool
is_still (stage.Reading l) = true
is_still (stage.Loading o left) = true
is_still (stage.Locking homes) = true
is_still stage.Releasing = true
is_still stage.Cancelling = true
is_still s = false

-- what was answered: nothing where it was quiet, else what was said
abbrev pub told_in : {V : Type 0} → Bool → ActorNotice V → ActorNotice V
told_in true n = told.Quiet
told_in false n = n

-- An allocation may fail at this stage: its turn takes memory, or it reads for a call, which takes some once its gate is put back.
abbrev pub MayWant : {V : Type 0} → Stage V → Type 0
MayWant (Loading o left) = Unit {0}
MayWant st = WantsMemory (next_of st)

-- a call that loads a location: all but the write of a word
abbrev pub IsLoading : {V : Type 0} → Op V → Type 0
IsLoading (Write v) = ⊥
IsLoading op = Unit {0}

-- a call on a collection
abbrev pub IsOnCollection : {V : Type 0} → Op V → Type 0
IsOnCollection Read = ⊥
IsOnCollection (Write v) = ⊥
IsOnCollection op = Unit {0}

-- for this such a call is aborted
abbrev pub IsCallCause : {V : Type 0} → Op V → Refusal → Type 0
IsCallCause op (Moved l word) = IsLoading op
IsCallCause op (Stale l base word) = IsOnCollection op
IsCallCause op (GateBusy k) = IsOnCollection op
IsCallCause op OutOfMemory = Unit {0}
IsCallCause op cause = ⊥

-- and for this a commit
abbrev pub IsCommitCause : Refusal → Type 0
IsCommitCause (Busy l word) = Unit {0}
IsCommitCause (Invalid l word) = Unit {0}
IsCommitCause (GateBusy k) = Unit {0}
IsCommitCause OutOfMemory = Unit {0}
IsCommitCause cause = ⊥

-- A writer's number is above the one at which it has begun, and no higher than this clock; a reader's is that one.
pub record IsNumberOf {V : Type 0} (rv k : ℕ) (r : Record V) : Type 0 where
  pub writer : r.writes ≡ true → (rv < r.number) × (r.number ≤ k)
  pub reader : r.writes ≡ false → r.number ≡ rv

module _ {V : Type 0} where
  -- what the definitions have of the actor of a seat, in the world with the seat alone
  abbrev pub seat_in : World V → Seat V → worlds.Seat V
  seat_in o s = (acts o s).seats (actor s)

  -- and so where its transaction stands
  abbrev pub standing : World V → Seat V → KnownStage V
  standing o s = known_stage (seat_in o s)

  -- whether its transaction is a declared reader's
  abbrev pub is_declared : World V → Seat V → Bool
  is_declared o s = (actor_of (acts o s) (actor s)).declared

  abbrev pub as_receipts : ℕ → Option (Record V) → List (ℕ × Record V)
  as_receipts a None = []
  as_receipts a (Some r) = (a, r) ∷ []

  -- One of the turns between the seat s and the seat u was a step from the world v, which events have reached, and which was to the actor
  -- as the world with it alone was by then.
  pub record IsTurnFrom (o : World V) (s u : Seat V) (v : World V) : Type 0 where
    pub before : List (Turn V)
    pub turn : Turn V
    pub after : List (Turn V)
    pub turns : (view u).turns ≡ ((view s).turns ++ before) ++ turn ∷ after
    pub events : List (Event V)
    pub reached : run o events ≡ v
    pub alike : Alike (actor s) v (asked_all (actor s) (lone (actor s) o ((view s).turns ++ before)) turn.asks)

  -- one of these turns, from such a world, answered this there
  abbrev pub HasTold : World V → Seat V → Seat V → ActorNotice V → Type 0
  HasTold o s u n = (v : World V) × IsTurnFrom o s u v × ((happens v (Step (actor s))).1 ≡ notice_of (actor s) n)

  -- one of these turns found this cause
  abbrev pub HasFound : World V → Seat V → Seat V → Refusal → Type 0
  HasFound o s u cause =
      (v : World V) × IsTurnFrom o s u v × IsCause v (actor s) (v.seats (actor s)).stage (happens v (Step (actor s))).0 cause

  -- or an allocation failed
  abbrev pub IsReason : World V → Seat V → Seat V → Refusal → Type 0
  IsReason o s u cause = HasFound o s u cause ⊎ (cause ≡ OutOfMemory)

  -- one of these turns loaded the clock at its limit, or above, and it is what its seat knows by then
  abbrev pub IsExhausted : World V → Seat V → Seat V → Refusal → Type 0
  IsExhausted o s u cause =
      (v : World V) × IsTurnFrom o s u v × (cause ≡ Exhausted v.boosted.words.clock) × (clock_limit ≤ v.boosted.words.clock)
      × (cause ≡ Exhausted (view u).clock)

  -- A turn of actor a makes the receipt, if any, that is kept from then on in place of the one before.
  abbrev pub MakesReceipt : ℕ → TxActor V → Option (Record V) → Option (Record V) → Type 0
  MakesReceipt a r before now = (d : Option (Record V)) × (commits a r ≡ as_receipts a d) × (now ≡ latest d before)

  -- What is answered to a request that stood so is true: a begin answers the clock that its seat knows by then, and a cause was found by
  -- one of its own turns, or is a failed allocation, and is one for which such a request is aborted. While nothing is answered, a
  -- transaction that is being aborted has noted such a cause. One that was aborted before is answered the cause that it had.
  abbrev pub IsTrue : World V → Seat V → Seat V → KnownStage V → ActorNotice V → Type 0
  IsTrue o s u Begins (told.Answered (answer.Begun rv)) = rv ≡ (view u).clock
  IsTrue o s u Begins (told.Refused cause) = IsExhausted o s u cause
  IsTrue o s u (Calls calls call) told.Quiet =
      (cause : Refusal) → standing o u ≡ Ends → (seat_in o u).cause ≡ Some cause → IsReason o s u cause × IsCallCause call.op cause
  IsTrue o s u (Calls calls call) (told.Refused cause) =
      (IsReason o s u cause × IsCallCause call.op cause) ⊎ ((standing o u ≡ Stands calls) × IsMistaken cause)
  IsTrue o s u (Commits calls) told.Quiet =
      (cause : Refusal) → standing o u ≡ Ends → (seat_in o u).cause ≡ Some cause → IsReason o s u cause × IsCommitCause cause
  IsTrue o s u (Commits calls) (told.Refused cause) = IsReason o s u cause × IsCommitCause cause
  IsTrue o s u before n = Unit {0}

  -- a transaction without writes commits by a load of the clock
  abbrev pub is_closing : Stage V → Bool
  is_closing Closing = true
  is_closing st = false

  -- The record that was made says whether there were writes, and a commit without a record continues as it stood at this stage.
  abbrev pub IsWritten : Stage V → worlds.Seat V → Option (Record V) → Type 0
  IsWritten at x (Some r) = r.writes ≡ not (is_closing at)
  IsWritten at x None = (calls : List (Call V × Reply V)) → known_stage x ≡ Commits calls → is_closing x.stage ≡ is_closing at

  -- the seat of a commit under way knows its number, where it has one
  abbrev pub KnowsNumber : World V → Seat V → Type 0
  KnowsNumber o u = (calls : List (Call V × Reply V)) → standing o u ≡ Commits calls
      → IsStamped (view u).clock (actor_of (acts o u) (actor u))

  -- the transaction of a seat, as one that was aborted for this cause, or as its actor asked
  abbrev pub aborted_for : World V → Seat V → Option Refusal → Ended V
  aborted_for o s cause = record { actor = actor s; rv = (seat_in o s).rv; calls = (seat_in o s).calls; cause = cause }

  -- The turns of a request from s on to u, the last of which answers n, leave the calls of its transaction while nothing is answered, and
  -- add no aborted transaction to those of the world with its actor alone; nor does a begin, nor turns after which there is a transaction,
  -- or one has committed. Where the last one answers why the transaction has ended, they add this one.
  pub record AddsAborted (o : World V) (s u : Seat V) (n : ActorNotice V) : Type 0 where
    pub calls : n ≡ told.Quiet → (standing o s ≡ Begins → ⊥) → (seat_in o u).calls ≡ (seat_in o s).calls
    pub quiet : n ≡ told.Quiet → (acts o u).aborted ≡ (acts o s).aborted
    pub begin : standing o s ≡ Begins → (acts o u).aborted ≡ (acts o s).aborted
    pub going : (standing o u ≡ Rests → ⊥) → (acts o u).aborted ≡ (acts o s).aborted
    pub committed : (k : ℕ) → n ≡ told.Answered (answer.Committed k) → (acts o u).aborted ≡ (acts o s).aborted
    pub ended : (cause : Option Refusal) → notice_of (actor s) n ≡ why (actor s) cause → standing o u ≡ Rests
        → (standing o s ≡ Begins → ⊥)
        → (acts o u).aborted ≡ (acts o s).aborted ++ aborted_for o s cause ∷ []

  -- The seat s took turns and is u, each but the last of which answered nothing; the last answers n. It has these turns more, and the
  -- receipt that they made, if any, and has loaded the clock at none but its turns, and its actor was asked nothing more; the definitions
  -- say what the request results in, and what is answered is true.
  pub record Driven (o : World V) (s u : Seat V) (n : ActorNotice V) (d : Option (Record V)) : Type 0 where
    pub seat : IsSameSeat s u
    pub more : List (Turn V)
    pub turns : (view u).turns ≡ (view s).turns ++ more
    pub shares : (view u).shares ≡ (view s).shares
    pub joined : (view u).joined ≡ (view s).joined
    pub looks : (view u).looks ≡ (view s).looks
    pub gains : (view u).receipts ≡ (view s).receipts ++ as_receipts (actor s) d
    pub rises : (view s).clock ≤ (view u).clock
    pub comes : ComesTo (actor s) (seat_in o s) (notice_of (actor s) n) (seat_in o u) d
    pub is_true : IsTrue o s u (standing o s) n
    pub tells : n ≢ told.Quiet → HasTold o s u n
    pub written : IsWritten (seat_in o s).stage (seat_in o u) d
    pub began : (standing o s ≡ Begins → ⊥) → (standing o u ≡ Rests → ⊥) → (seat_in o u).rv ≡ (seat_in o s).rv
    pub declared : standing o s ≡ Begins → (standing o u ≡ Rests → ⊥) → is_declared o u ≡ is_declared o s
    pub reader : is_declared o s ≡ true → is_declared o u ≡ true
    pub stamped : KnowsNumber o s → KnowsNumber o u
    pub numbered : KnowsNumber o s → (r : Record V) → d ≡ Some r → IsNumberOf (seat_in o s).rv (view u).clock r
    pub asks : requests_of u ≡ requests_of s
    pub aborted : AddsAborted o s u n

  -- how many steps the request of a seat takes at most
  abbrev pub left_in : World V → Seat V → ℕ
  left_in o s = left_of (acts o s) (actor s)

  -- The seat u took turns that made no record, each but the last of which answered nothing, and is z; the last answers n. Those that led to
  -- u lead on to z so. Where the last answered nothing either the request is nearer to its answer.
  pub record LeadsOn (o : World V) (u z : Seat V) (n : ActorNotice V) : Type 0 where
    pub driven : (s : Seat V) (d : Option (Record V)) → Driven o s u told.Quiet d → Driven o s z n d
    pub nearer : n ≡ told.Quiet → left_in o z < left_in o u

  -- The seat s took turns, which answered nothing and made no record, up to one that takes memory, or to the store of a call's gate, after
  -- which the call takes some, and there was none: so its request is being aborted, as the seat u is.
  pub record Stops (o : World V) (s u : Seat V) : Type 0 where
    pub before : Seat V
    pub driven : Driven o s before told.Quiet None
    pub wants : MayWant (seat_in o before).stage
    pub said : ActorNotice V
    pub starved : Starved o before u said
