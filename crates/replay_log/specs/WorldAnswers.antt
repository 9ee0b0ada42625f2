-- What a refusal says as it is answered, and what it leaves.
use Rattle.std.specs.Prelude.{◌≡◌, ◌≢◌, ◌⊎◌, ℕ, ◌<◌, ◌≤◌, length, Bool, true, false, ◌&&◌, ◌||◌, not, nat_lt, List, [], ◌∷◌, Some}
use Rattle.tx_sets.specs.Entries.{Entries, lookup}
use Rattle.tx_machine.specs.Actor as machine
use Rattle.tx_machine.specs.Actor.{clock_limit}
use Rattle.seq_model.specs.declared.call.Op.{Op}
use Rattle.seq_model.specs.declared.call.Op.TheVariants.{Read, Write}
use Rattle.seq_model.specs.declared.event.Request.{Request}
use Rattle.seq_model.specs.declared.event.Request.TheVariants.{Call}
use Rattle.seq_model.specs.declared.limits.TheConstants.{CALL_LIMIT}
use Rattle.seq_model.specs.declared.refusal.Refusal.{Refusal}
use Rattle.seq_model.specs.declared.refusal.Refusal.TheVariants.{Exhausted, TooLong, NoTransaction, Memory as OutOfMemory}
use Rattle.seq_model.specs.declared.event.Notice.{Notice}
use Rattle.seq_model.specs.declared.event.Notice.TheVariants.{Quiet, Refused}
use Rattle.tx_machine.specs.Boosted.{PutGate, is_none}
use Rattle.replay_log.specs.Contents.{CollectionCall, CallWithOutcome, block_of}
use Rattle.replay_log.specs.Pieces.{covers_at}
use Rattle.replay_log.specs.WorldRefusals.{is_ending}
use Rattle.replay_log.specs.WorldStill.{Same}
use Rattle.replay_log.specs.Worlds.{World, Stage, Idle, Beginning, Open, Copying, Leaving, Ready, Storing, Homing, Releasing, Cancelling}
use Rattle.replay_log.specs.Worlds.{Returning, After, at_stage, acted, actor_of, fits, outcome_at, is_known, may_ask}

-- Of these locations one was read with another edition than its base has now, and so were all before it with some edition.
abbrev pub IsStale : (reads : Entries) → (editions : ℕ → ℕ) → List ℕ → Type 0
IsStale reads editions [] = ⊥
IsStale reads editions (l ∷ ls) = (e : ℕ) × (lookup reads l ≡ Some e) × ((e ≢ editions l) ⊎ IsStale reads editions ls)

module _ {V : Type 0} where
  -- whether there is what a call asks of, and it is of its kind; for a declared reader there is no change
  abbrev pub is_there : World V → ℕ → ℕ → Op V → Bool
  is_there w a t Read = nat_lt t w.words
  is_there w a t (Write v) = nat_lt t w.words && not (actor_of w a).declared
  is_there w a t op = is_known (block_of w.blocks t) op && may_ask (actor_of w a) op

  -- Whether a word that is read or written finds room in the sets. What a call of a collection needs is known only once it is copied.
  abbrev pub has_word_room : machine.Actor → ℕ → Op V → Bool
  has_word_room x l Read = x.declared || (not (is_none (lookup x.writes l)) || fits x.reads (l ∷ []))
  has_word_room x l (Write v) = fits x.writes (l ∷ [])
  has_word_room x l op = true

  -- a call finds what it asks of, the limit of calls is not reached, and its word finds room
  abbrev pub IsCallAdmitted : World V → ℕ → Request V → Type 0
  IsCallAdmitted w a (Call call) =
      (is_there w a call.target call.op ≡ true) × (length (w.seats a).calls < CALL_LIMIT)
      × (has_word_room (actor_of w a) call.target call.op ≡ true)
  IsCallAdmitted w a q = Unit {0}

  -- The request is refused neither as NotIdle, NoTransaction or NoSuch, nor as TooLong for the limit of calls or since its word finds no
  -- room.
  pub record IsAdmitted (w : World V) (a : ℕ) (q : Request V) : Type 0 where
    pub stands : (w.seats a).stage ≡ Open
    pub call : IsCallAdmitted w a q

  abbrev pub IsRefusal : Notice V → Type 0
  IsRefusal (Refused a cause) = Unit {0}
  IsRefusal n = ⊥

  -- A step of a at this stage, which leads from w to u, is refused so: none is next; the clock that it loads is at its limit; the locations
  -- of a call don't fit the sets, and its transaction is as before it; or its transaction has ended, and the cause that was found is
  -- answered.
  abbrev pub IsRefusedAt : World V → ℕ → Stage V → World V → Refusal → Type 0
  IsRefusedAt w a Idle u cause = (cause ≡ NoTransaction) × Same w u
  IsRefusedAt w a Open u cause = (cause ≡ NoTransaction) × Same w u
  IsRefusedAt w a Beginning u cause = (cause ≡ Exhausted w.boosted.words.clock) × (clock_limit ≤ w.boosted.words.clock)
      × ((u.seats a).stage ≡ Idle)
  IsRefusedAt w a (Copying asked) u cause = (cause ≡ TooLong) × (u.seats a ≡ at_stage (w.seats a) Open) × (actor_of u a ≡ actor_of w a)
  IsRefusedAt w a Leaving u cause = ((w.seats a).cause ≡ Some cause) × ((u.seats a).stage ≡ Idle)
  IsRefusedAt w a stage u cause = ⊥

  -- where this is answered, P is so of the cause
  abbrev pub RefusedBy : ℕ → (Refusal → Type 0) → Notice V → Type 0
  RefusedBy a P (Refused b cause) = (b ≡ a) × P cause
  RefusedBy a P n = Unit {0}

  -- the outcome that a call has of what its transaction has copied, once its gate is put back
  abbrev pub copied_outcome : World V → ℕ → CollectionCall V → CallWithOutcome V
  copied_outcome w a asked = outcome_at (acted w (PutGate a asked.collection (covers_at w.words w.blocks asked) ∷ [])) a asked

  -- TooLong is answered where there is no room, and no refusal where there is
  abbrev pub IsTooLongUnless : ℕ → (room : Bool) → Notice V → Type 0
  IsTooLongUnless a true n = IsRefusal n → ⊥
  IsTooLongUnless a false n = n ≡ Refused a TooLong

  -- What comes of a failed allocation of a at this stage: it is refused where no request is under way; a begin is refused for it at once;
  -- up to the first value store a request is aborted for it; and then, and where it is aborted already, nothing comes of it.
  abbrev pub IsStarved : World V → ℕ → Stage V → After V → Type 0
  IsStarved w a Idle r = r ≡ (w, Refused a NoTransaction)
  IsStarved w a Open r = r ≡ (w, Refused a NoTransaction)
  IsStarved w a Beginning r = ((r.0.seats a).stage ≡ Idle) × (r.1 ≡ Refused a OutOfMemory)
  IsStarved w a (Storing ks) r = r ≡ (w, Quiet)
  IsStarved w a (Homing ks) r = r ≡ (w, Quiet)
  IsStarved w a Releasing r = r ≡ (w, Quiet)
  IsStarved w a (Returning ks) r = r ≡ (w, Quiet)
  IsStarved w a Cancelling r = r ≡ (w, Quiet)
  IsStarved w a Leaving r = r ≡ (w, Quiet)
  IsStarved w a stage r = (is_ending (r.0.seats a).stage ≡ true) × ((r.0.seats a).cause ≡ Some OutOfMemory) × (r.1 ≡ Quiet)

  -- a step at this stage stores a value, or puts a base back
  abbrev pub changes_at : Stage V → Bool
  changes_at (Ready ks) = true
  changes_at (Storing ks) = true
  changes_at (Homing ks) = true
  changes_at stage = false

  -- no value and no base has changed from w to u
  pub record Untouched (w u : World V) : Type 0 where
    pub values : u.boosted.words.values ≡ w.boosted.words.values
    pub parts : u.boosted.parts ≡ w.boosted.parts
    pub editions : u.boosted.editions ≡ w.boosted.editions
