-- The actors of a world: where the request of each stands, what it keeps of its transaction, and the world that they share.
use Rattle.std.specs.Prelude.{ℕ, Bool, false, List, [], Option, Some, None}
use Rattle.tx_sets.specs.Entries.{Entries}
use Rattle.tx_machine.specs.Actor.{Actor}
use Rattle.tx_machine.specs.Requests as word
use Rattle.tx_machine.specs.World as machine
use Rattle.tx_machine.specs.Notices as told
use Rattle.seq_model.specs.declared.call.Call.{Call}
use Rattle.seq_model.specs.declared.call.Reply.{Reply}
use Rattle.seq_model.specs.declared.record.Record.{Record}
use Rattle.seq_model.specs.declared.refusal.Refusal.{Refusal}
use Rattle.seq_model.specs.declared.event.Notice.{Notice}
use Rattle.tx_machine.specs.Boosted.{Boosted, Action, OnWords, act_all}
use Rattle.replay_log.specs.Base.{Shown}
use Rattle.replay_log.specs.Contents.{Block, CollectionCall, content}
use Rattle.replay_log.specs.Contents as contents
use Rattle.replay_log.specs.Pieces.{Piece}

-- Where an actor's request stands. Each stage but the first and Open is that of the next atomic step.
pub data Stage (V : Type 0) : Type 0 where
  Idle Beginning Open Locking Releasing Closing Cancelling Leaving : Stage V
  Reading : (l : ℕ) → Stage V  -- a word is being read
  Trying : (asked : CollectionCall V) → (tries : ℕ) → Stage V  -- the gate of a call is tried; so many tries are left after this one
  Copying : (asked : CollectionCall V) → Stage V  -- the gate is held: what the call touches is copied, and the gate put back
  Loading : (outcome : contents.CallWithOutcome V) → (left : Entries)
      → Stage V  -- the first of these is read; the editions are those copied
  Gating : (got ks : List ℕ) → (tries : ℕ) → Stage V  -- the gate of the first of ks is tried
  Ready : (ks : List ℕ) → Stage V  -- all is locked, checked and held: the first value store, which commits
  Storing : (ks : List ℕ) → Stage V  -- the next value store
  Homing : (ks : List ℕ) → Stage V  -- the base of the first of ks is put back
  Returning : (ks : List ℕ) → Stage V  -- refused: the gate of the first of ks is put back, its base unchanged

-- An actor, and its transaction.
pub record Seat (V : Type 0) : Type 0 where
  pub stage : Stage V
  pub rv : ℕ
  pub wv : ℕ
  pub cause : Option Refusal  -- why it is being aborted; none where its actor asked for it
  pub calls : List (Call V × Reply V)
  pub copied : ℕ → Piece → Bool  -- the pieces of collections that it has copied

-- An aborted transaction.
pub record Ended (V : Type 0) : Type 0 where
  pub actor : ℕ
  pub rv : ℕ
  pub calls : List (Call V × Reply V)
  pub cause : Option Refusal

pub record World (V : Type 0) : Type 0 where
  pub words : ℕ  -- how many plain words there are
  pub blocks : List Block
  pub boosted : Boosted (Shown V) (contents.CallWithOutcome V)
  pub seats : ℕ → Seat V
  pub records : List (ℕ × Record V)  -- committed, in commit order
  pub aborted : List (Ended V)  -- in the order of their ending

-- what an event leaves, and what it answers
abbrev pub After : Type 0 → Type 0
After V = World V × Notice V

module _ {V : Type 0} where
  abbrev pub no_one : Seat V
  no_one = record { stage = Idle; rv = 0; wv = 0; cause = None; calls = []; copied = λ k p. false }

  abbrev pub at_stage : Seat V → Stage V → Seat V
  at_stage x stage = record x { stage = stage }

  abbrev pub because : Seat V → Refusal → Seat V
  because x cause = record x { cause = Some cause }

  -- actor a is x now
  abbrev pub seated : World V → ℕ → Seat V → World V
  seated w a x = record w { seats = machine.put w.seats a x }

  -- these actions are done
  abbrev pub acted : World V → List (Action (CollectionCall V)) → World V
  acted w actions = record w { boosted = act_all (content w.words w.blocks) actions w.boosted }

  abbrev pub asks : ℕ → word.Request → Action (CollectionCall V)
  asks a q = OnWords (machine.Ask a q)

  abbrev pub moves : ℕ → Action (CollectionCall V)
  moves a = OnWords (machine.Step a)

  abbrev pub actor_of : World V → ℕ → Actor
  actor_of w a = w.boosted.words.actors a

  -- what the word machine's next step of a answers
  abbrev pub word_notice : World V → ℕ → told.Notice
  word_notice w a = told.notice w.boosted.words (actor_of w a) (actor_of w a).place
