-- Collections beside the word machine: gates, bases and shadows, and small guarded actions on them, each at most one atomic step.
use Rattle.std.specs.Prelude.{ℕ, ◌+◌, Bool, true, false, ◌&&◌, ◌||◌, not, Option, Some, None, List, [], ◌∷◌, ◌++◌, ◌==◌, nat_lt}
use Rattle.std.specs.Prelude.{if◌then◌else◌}
use Rattle.tx_sets.specs.Entries.{lookup, locations}
use Rattle.tx_machine.specs.Actor.{Call, Place, Begin, Open, First, Store, Release, Actor, clock_limit}
use Rattle.tx_machine.specs.Requests.{Request, AskStore, AskRelease, AskWrite, ask}
use Rattle.tx_machine.specs.World.{Memory, Record, Ended, World, Event, Ask, Step, StepEnd, GoesOn, Commits, Aborts, put, comes_before}
use Rattle.tx_machine.specs.World.{now, step_end, step, run, start}
use Rattle.tx_machine.specs.Opacity.{first_read}
use Rattle.tx_machine.specs.Content.{Content}

-- A committed transaction: the record of its words, where the editions of locations stand among them, and the outcomes of its calls.
pub record Committed (Out : Type 0) : Type 0 where
  pub word : Record
  pub outcomes : List Out

-- An aborted transaction.
pub record Aborted (Out : Type 0) : Type 0 where
  pub word : Ended
  pub outcomes : List Out

-- What a transaction has copied, by location, and the outcomes that it got.
pub record Shadow (X Out : Type 0) : Type 0 where
  pub copied : ℕ → Bool
  pub parts : ℕ → X
  pub editions : ℕ → ℕ
  pub outcomes : List Out

-- The words, the bases of the collections, and the transactions that have ended.
pub record Boosted (X Out : Type 0) : Type 0 where
  pub words : World
  pub opening : ℕ → X
  pub first : ℕ → ℕ  -- the editions at the opening
  pub parts : ℕ → X
  pub editions : ℕ → ℕ
  pub gates : ℕ → Option ℕ  -- who holds the gate of a collection
  pub shadows : ℕ → Shadow X Out
  pub history : List (Committed Out)  -- in the order of their numbers
  pub aborted : List (Aborted Out)

pub data Action (Op : Type 0) : Type 0 where
  OnWords : (event : Event) → Action Op
  TakeGate : (a k : ℕ) → Action Op  -- a compare_exchange that succeeds
  PutGate : (a k : ℕ) → (which : ℕ → Bool) → Action Op  -- the store that puts it back; an open transaction has copied these parts
  Accept : (a : ℕ) → (op : Op) → Action Op  -- no step: what the call reads has been read
  GoHome : (a k : ℕ) → Action Op  -- the store that puts the gate back, with the changes replayed

abbrev pub is_open : Place → Bool
is_open Open = true
is_open p = false

abbrev pub is_stored : Place → Bool
is_stored (Store []) = true
is_stored p = false

-- from the request of the first value store on
abbrev pub is_committing : Place → Bool
is_committing First = true
is_committing (Store ls) = true
is_committing Release = true
is_committing p = false

abbrev pub is_actor : ℕ → Option ℕ → Bool
is_actor a (Some b) = a == b
is_actor a None = false

abbrev pub is_edition : ℕ → Option ℕ → Bool
is_edition e (Some v) = e == v
is_edition e None = false

abbrev pub is_none : Option ℕ → Bool
is_none None = true
is_none (Some a) = false

abbrev pub every : (ℕ → Bool) → List ℕ → Bool
every test [] = true
every test (l ∷ ls) = test l && every test ls

-- a declared reader writes nothing
abbrev pub may_write : Bool → List ℕ → Bool
may_write declared [] = true
may_write declared (l ∷ ls) = not declared

-- records by number, as those of the words are
unfoldable pub insert_commit : {Out : Type 0} → Committed Out → List (Committed Out) → List (Committed Out)
insert_commit c [] = c ∷ []
insert_commit c (x ∷ xs) = if comes_before c.word x.word then c ∷ (x ∷ xs) else x ∷ insert_commit c xs

-- the words are t now
abbrev pub on_words : {X Out : Type 0} → Boosted X Out → World → Boosted X Out
on_words s t = record s { words = t }

-- and those after a request
abbrev pub requested : {X Out : Type 0} → Boosted X Out → ℕ → Request → Boosted X Out
requested s a request = on_words s (now s.words a (ask (s.words.actors a) (s.words.actors a).place request))

-- a transaction that has begun has copied nothing
abbrev pub fresh : {X Out : Type 0} → Boosted X Out → Shadow X Out
fresh s = record { copied = λ l. false; parts = s.opening; editions = s.first; outcomes = [] }

abbrev pub shadows_after : {X Out : Type 0} → Boosted X Out → ℕ → Place → ℕ → Shadow X Out
shadows_after s a Begin = if nat_lt s.words.clock clock_limit then put s.shadows a (fresh s) else s.shadows
shadows_after s a p = s.shadows

-- the transaction that a step of the words ends, with its outcomes
abbrev pub recorded : {X Out : Type 0} → Boosted X Out → List Out → StepEnd → Boosted X Out
recorded s os GoesOn = s
recorded s os (Commits r) = record s { history = insert_commit (record { word = r; outcomes = os }) s.history }
recorded s os (Aborts e) = record s { aborted = s.aborted ++ record { word = e; outcomes = os } ∷ [] }

-- the next atomic step of the words
abbrev pub word_step : {X Out : Type 0} → Boosted X Out → ℕ → Actor → Place → Boosted X Out
word_step s a x p = recorded (record s { words = step s.words a x p; shadows = shadows_after s a p }) (s.shadows a).outcomes
    (step_end a x p)

-- other gates and shadows
abbrev pub gated : {X Out : Type 0} → Boosted X Out → (ℕ → Option ℕ) → (ℕ → Shadow X Out) → Boosted X Out
gated s gates shadows = record s { gates = gates; shadows = shadows }

-- the writes that an accepted call asks: at each written location the edition after the copied one
abbrev pub writes_asked : ℕ → (ℕ → ℕ) → List ℕ → List Event
writes_asked a editions [] = []
writes_asked a editions (l ∷ ls) = Ask a (AskWrite l (editions l + 1)) ∷ writes_asked a editions ls

-- the shadow with one outcome more
abbrev pub longer : {X Out : Type 0} → Shadow X Out → Out → Shadow X Out
longer w o = record w { outcomes = w.outcomes ++ o ∷ [] }

module _ {X Op Out : Type 0} (c : Content X Op Out) where
  -- the gate of l is not needed, or a has it
  abbrev pub is_held : Boosted X Out → ℕ → ℕ → Bool
  is_held s a l = c.plain l || is_actor a (s.gates (c.home l))

  -- the gate of l is not needed, or a does not have it
  abbrev pub is_given : Boosted X Out → ℕ → ℕ → Bool
  is_given s a l = c.plain l || not (is_actor a (s.gates (c.home l)))

  -- A request to the words. An edition is written by Accept alone. The gates of all written collections are held before the
  -- first value store, and none of them any more at the releases.
  abbrev pub on_ask : Boosted X Out → ℕ → Request → Boosted X Out
  on_ask s a (AskWrite l v) = if c.plain l then requested s a (AskWrite l v) else s
  on_ask s a AskStore = if every (is_held s a) (locations (s.words.actors a).writes) then requested s a AskStore else s
  on_ask s a AskRelease = if every (is_given s a) (locations (s.words.actors a).writes) then requested s a AskRelease else s
  on_ask s a request = requested s a request

  abbrev pub on_event : Boosted X Out → Event → Boosted X Out
  on_event s (Ask a request) = on_ask s a request
  on_event s (Step a) = word_step s a (s.words.actors a) (s.words.actors a).place

  -- not while it commits: with a gate taken again its changes would be replayed twice
  abbrev pub take_gate : Boosted X Out → ℕ → ℕ → Boosted X Out
  take_gate s a k =
      if is_none (s.gates k) && not (is_committing (s.words.actors a).place) then gated s (put s.gates k (Some a)) s.shadows else s

  -- the locations that a copy of k takes: what has been read remains as it was copied
  abbrev pub is_copied : List Call → ℕ → (ℕ → Bool) → ℕ → Bool
  is_copied calls k which l = which l && (not (c.plain l) && (c.home l == k && is_none (first_read calls l)))

  abbrev pub copied : Boosted X Out → List Call → Shadow X Out → ℕ → (ℕ → Bool) → Shadow X Out
  copied s calls w k which =
      record w {
        copied = λ l. if is_copied calls k which l then true else w.copied l;
        parts = λ l. if is_copied calls k which l then s.parts l else w.parts l;
        editions = λ l. if is_copied calls k which l then s.editions l else w.editions l;
      }

  abbrev pub shadows_copied : Boosted X Out → ℕ → ℕ → (ℕ → Bool) → ℕ → Shadow X Out
  shadows_copied s a k which =
      if is_open (s.words.actors a).place then put s.shadows a (copied s (s.words.actors a).calls (s.shadows a) k which) else s.shadows

  abbrev pub put_gate : Boosted X Out → ℕ → ℕ → (ℕ → Bool) → Boosted X Out
  put_gate s a k which =
      if is_actor a (s.gates k) && not (is_committing (s.words.actors a).place)
      then gated s (put s.gates k None) (shadows_copied s a k which)
      else s

  -- one change after another
  abbrev pub changes : List Out → (ℕ → X) → ℕ → X
  changes [] v = v
  changes (o ∷ os) v = changes os (c.change o v)

  -- a location whose copied edition is the one that its word was read with
  abbrev pub is_sound : Boosted X Out → ℕ → ℕ → Bool
  is_sound s a l = (s.shadows a).copied l && is_edition ((s.shadows a).editions l) (first_read (s.words.actors a).calls l)

  abbrev pub accepted : Boosted X Out → ℕ → Out → Boosted X Out
  accepted s a o =
      if is_open (s.words.actors a).place && (may_write (s.words.actors a).declared (c.writes o) && every (is_sound s a) (c.reads o))
      then record s {
        words = run (writes_asked a (s.shadows a).editions (c.writes o)) s.words;
        shadows = put s.shadows a (longer (s.shadows a) o);
      }
      else s

  -- the edition of a location after the commit of a
  abbrev pub raised_by : Boosted X Out → ℕ → ℕ → ℕ
  raised_by s a l = if is_none (lookup (s.words.actors a).writes l) then s.editions l else s.editions l + 1

  -- the base of k with the changes of a transaction, each written edition raised by one, and the gate put back
  abbrev pub homed : Boosted X Out → ℕ → ℕ → Boosted X Out
  homed s a k =
      record s {
        gates = put s.gates k None;
        parts = λ l. if c.home l == k then changes (s.shadows a).outcomes s.parts l else s.parts l;
        editions = λ l. if c.home l == k then raised_by s a l else s.editions l;
      }

  abbrev pub go_home : Boosted X Out → ℕ → ℕ → Boosted X Out
  go_home s a k = if is_actor a (s.gates k) && is_stored (s.words.actors a).place then homed s a k else s

  -- the world after an action; one after a guard that fails changes nothing
  abbrev pub acts : Boosted X Out → Action Op → Boosted X Out
  acts s (OnWords e) = on_event s e
  acts s (TakeGate a k) = take_gate s a k
  acts s (PutGate a k which) = put_gate s a k which
  acts s (Accept a op) = accepted s a (c.outcome (changes (s.shadows a).outcomes (s.shadows a).parts) op)
  acts s (GoHome a k) = go_home s a k

  abbrev pub act_all : List (Action Op) → Boosted X Out → Boosted X Out
  act_all [] s = s
  act_all (e ∷ es) s = act_all es (acts s e)

-- the opening: an edition stands as the value of its location's word
abbrev pub opens : {X Out : Type 0} → ℕ → Memory → (ℕ → X) → Boosted X Out
opens clock memory parts =
    record {
      words = start clock memory;
      opening = parts;
      first = memory;
      parts = parts;
      editions = memory;
      gates = λ k. None;
      shadows = λ a. record { copied = λ l. false; parts = parts; editions = memory; outcomes = [] };
      history = [];
      aborted = [];
    }
