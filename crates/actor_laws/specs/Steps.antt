-- The one atomic action of an event, and what the event leaves as it was.
use Rattle.std.specs.Prelude.{◌≡◌, ◌≢◌, ℕ, true, false, ◌≤◌, [], ◌∷◌, ◌++◌, Option, Some, None}
use Rattle.tx_machine.specs.Requests as word
use Rattle.tx_machine.specs.World.{Ask, Step}
use Rattle.tx_machine.specs.Cells.{Cell, cell}
use Rattle.seq_model.specs.declared.event.Event.{Event}
use Rattle.seq_model.specs.declared.event.Event.TheVariants as event
use Rattle.tx_machine.specs.Boosted.{Action, OnWords, TakeGate, PutGate, Accept, GoHome}
use Rattle.replay_log.specs.Contents.{CollectionCall}
use Rattle.replay_log.specs.Guards.{step_action}
use Rattle.replay_log.specs.Seats.{World, Seat, Stage, Closing, Leaving, Ready, acted, asks, moves}
use Rattle.replay_log.specs.WorldCommits.{recorded}
use Rattle.replay_log.specs.Worlds.{happens}
use Rattle.actor_laws.specs.Clock.{stamps_left}

module _ {V : Type 0} where
  -- From v to u nothing has changed but what is a's own: no word, gate or base, no record, and no other actor.
  pub record OnlyOwn (a : ℕ) (v u : World V) : Type 0 where
    pub words : u.words ≡ v.words
    pub blocks : u.blocks ≡ v.blocks
    pub cells : (c : Cell) → cell u.boosted.words c ≡ cell v.boosted.words c
    pub gates : (k : ℕ) → u.boosted.gates k ≡ v.boosted.gates k
    pub parts : (l : ℕ) → u.boosted.parts l ≡ v.boosted.parts l
    pub editions : (l : ℕ) → u.boosted.editions l ≡ v.boosted.editions l
    pub opening : u.boosted.opening ≡ v.boosted.opening
    pub first : u.boosted.first ≡ v.boosted.first
    pub actors : (b : ℕ) → b ≢ a → u.boosted.words.actors b ≡ v.boosted.words.actors b
    pub shadows : (b : ℕ) → b ≢ a → u.boosted.shadows b ≡ v.boosted.shadows b
    pub seats : (b : ℕ) → b ≢ a → u.seats b ≡ v.seats b
    pub records : u.records ≡ v.records
    pub aborted : u.aborted ≡ v.aborted
    pub left : stamps_left (u.boosted.words.actors a).place ≤ stamps_left (v.boosted.words.actors a).place

  -- an atomic action of a: a step of the words, or a load or a store of one gate, with its base
  abbrev pub IsAtomic : ℕ → Action (CollectionCall V) → Type 0
  IsAtomic a (OnWords (Ask b q)) = ⊥
  IsAtomic a (OnWords (Step b)) = b ≡ a
  IsAtomic a (TakeGate b k) = b ≡ a
  IsAtomic a (PutGate b k which) = b ≡ a
  IsAtomic a (Accept b op) = ⊥
  IsAtomic a (GoHome b k) = b ≡ a

  -- the atomic action that is next at a stage; at Ready the first value store, whose request is made just before
  abbrev pub atomic_action : ℕ → World V → Stage V → Option (Action (CollectionCall V))
  atomic_action a v (Ready ks) = Some (moves a)
  atomic_action a v stage = step_action v a stage

  -- the world in which it is done
  abbrev pub ready_at : ℕ → World V → Stage V → World V
  ready_at a v (Ready ks) = acted v (asks a word.AskStore ∷ [])
  ready_at a v stage = v

  -- w, with the transaction that the action ends: the first value store and the clock's load of a reader commit, the last load of an
  -- aborted one ends it
  abbrev pub ended_at : ℕ → Seat V → Stage V → World V → World V
  ended_at a x (Ready ks) w = recorded w a x true x.wv
  ended_at a x Closing w = recorded w a x false x.rv
  ended_at a x Leaving w = record w { aborted = w.aborted ++ record { actor = a; rv = x.rv; calls = x.calls; cause = x.cause } ∷ [] }
  ended_at a x stage w = w

  -- u is v after this action of a, whose seat is x, but for what is a's own
  abbrev pub Does : ℕ → World V → Seat V → Stage V → Option (Action (CollectionCall V)) → World V → Type 0
  Does a v x stage None u = OnlyOwn a v u
  Does a v x stage (Some action) u = IsAtomic a action × OnlyOwn a (ended_at a x stage (acted v (action ∷ []))) u

  -- a request or a failed allocation does nothing to what is shared; a step does the one atomic action that is next, or none
  abbrev pub IsOneAction : World V → Event V → Type 0
  IsOneAction v (event.Ask a q) = OnlyOwn a v (happens v (event.Ask a q)).0
  IsOneAction v (event.Step a) =
      let stage = (v.seats a).stage in
      Does a (ready_at a v stage) (v.seats a) stage (atomic_action a v stage) (happens v (event.Step a)).0
  IsOneAction v (event.Starve a) = OnlyOwn a v (happens v (event.Starve a)).0
