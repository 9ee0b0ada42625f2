-- TL2 on words: any number of actors over a clock, lock words and value words, one atomic step at a time.
use Rattle.std.specs.Prelude.{ℕ, ◌+◌, Bool, true, false, List, [], ◌∷◌, ◌++◌, ◌==◌, nat_lt, unwrap_or, if◌then◌else◌}
use Rattle.vlock_word.specs.declared.lock_word.LockWord.{LockWord}
use Rattle.vlock_word.specs.declared.lock_word.LockWord.TheVariants.{Free, Locked}
use Rattle.tx_sets.specs.Entries.{Entries, lookup, locations}
use Rattle.tx_machine.specs.Actor.{Call, Place, Idle, Begin, Open, Look, Fetch, Again, Lock, Take, Check, Broken, First, Store, Release}
use Rattle.tx_machine.specs.Actor.{Undo, Leave, Close, Actor, goes, begun, seen, seen_again, seen_to_lock, taken, stamped_at}
use Rattle.tx_machine.specs.Actor.{seen_in_check, freed, after_release}
use Rattle.tx_machine.specs.Requests.{Request, ask}

-- a value for each location
abbrev pub Memory : Type 0
Memory = ℕ → ℕ

-- f with x at k
unfoldable pub put : {A : Type 0} → (ℕ → A) → ℕ → A → ℕ → A
put f k x i = if i == k then x else f i

-- A committed transaction.
pub record Record : Type 0 where
  pub actor : ℕ
  pub number : ℕ  -- a writer's is its wv, a reader's its rv
  pub writer : Bool
  pub calls : List Call

-- An aborted transaction.
pub record Ended : Type 0 where
  pub actor : ℕ
  pub rv : ℕ
  pub calls : List Call

-- The words, the actors, and the transactions that have ended.
pub record World : Type 0 where
  pub opening : Memory
  pub clock : ℕ
  pub locks : ℕ → LockWord
  pub values : Memory
  pub actors : ℕ → Actor
  pub history : List Record  -- committed, in the order of their numbers
  pub aborted : List Ended

-- records by number; at one number the writer first, then readers by actor, then as made
unfoldable pub comes_before : Record → Record → Bool
comes_before r x =
    if nat_lt r.number x.number then true
    else if nat_lt x.number r.number then false
    else if r.writer then true
    else if x.writer then false
    else nat_lt r.actor x.actor

-- a record put in its place
unfoldable pub insert : Record → List Record → List Record
insert r [] = r ∷ []
insert r (x ∷ xs) = if comes_before r x then r ∷ (x ∷ xs) else x ∷ insert r xs

-- records listed as committed, each put in its place among those that stand
abbrev pub in_order : List Record → List Record → List Record
in_order sorted [] = sorted
in_order sorted (r ∷ rs) = in_order (insert r sorted) rs

-- An atomic step: one load, store, compare_exchange or fetch_add of one word, and its actor's record when it has found what stood there.
pub data Deed : Type 0 where
  Rests : Deed  -- no step is next
  LoadClock : (found : ℕ → Actor) → Deed
  AddToClock : (found : ℕ → Actor) → Deed  -- fetch_add of 1, which finds the clock before
  LoadLock : (l : ℕ) → (found : LockWord → Actor) → Deed
  LoadValue : (l : ℕ) → (found : ℕ → Actor) → Deed
  ExchangeLock : (l k : ℕ) → (won lost : Actor) → Deed  -- compare_exchange from free to locked, at version k
  StoreValue : (l v : ℕ) → (after : Actor) → Deed
  StoreLock : (l : ℕ) → (w : LockWord) → (after : Actor) → Deed

-- the first value store
abbrev pub first_store : Actor → Entries → Deed
first_store x [] = Rests
first_store x (e ∷ es) = StoreValue e.0 e.1 (goes x (Store (locations es)))

-- the next lock given back with the new version
abbrev pub release : Actor → Entries → Deed
release x [] = Rests
release x (e ∷ es) = StoreLock e.0 (Free x.wv) (freed x es (after_release es))

-- the next lock given back with its old version
abbrev pub undo : Actor → Entries → Deed
undo x [] = Rests
undo x (e ∷ es) = StoreLock e.0 (Free e.1) (freed x es Undo)

-- the atomic step that is next at a place
abbrev pub plan : Actor → Place → Deed
plan x Idle = Rests
plan x Begin = LoadClock (begun x)
plan x Open = Rests
plan x (Look l) = LoadLock l (seen x l)
plan x (Fetch l k) = LoadValue l (λ v. goes x (Again l k v))
plan x (Again l k v) = LoadLock l (seen_again x l k v)
plan x (Lock []) = AddToClock (λ clock. stamped_at x (clock + 1))
plan x (Lock (l ∷ ls)) = LoadLock l (seen_to_lock x l ls)
plan x (Take l k ls) = ExchangeLock l k (taken x l k ls) (goes x Broken)
plan x (Check []) = Rests
plan x (Check (l ∷ ls)) = LoadLock l (λ w. seen_in_check x ls w (lookup x.writes l))
plan x Broken = Rests
plan x First = first_store x x.writes
plan x (Store []) = Rests
plan x (Store (l ∷ ls)) = StoreValue l (unwrap_or (lookup x.writes l) 0) (goes x (Store ls))
plan x Release = release x x.held
plan x Undo = undo x x.held
plan x Leave = LoadClock (λ clock. goes x Idle)
plan x Close = LoadClock (λ clock. goes x Idle)

-- actor a is x now, and nothing else has changed
abbrev pub now : World → ℕ → Actor → World
now s a x = record s { actors = put s.actors a x }

-- the word of l, found as w, is locked if it was free at version k
abbrev pub exchanged : World → ℕ → ℕ → ℕ → Actor → Actor → LockWord → World
exchanged s a l k won lost (Free j) = if j == k then record (now s a won) { locks = put s.locks l (Locked k) } else now s a lost
exchanged s a l k won lost (Locked j) = now s a lost

-- the world after an atomic step of actor a
abbrev pub does : World → ℕ → Deed → World
does s a Rests = s
does s a (LoadClock found) = now s a (found s.clock)
does s a (AddToClock found) = record (now s a (found s.clock)) { clock = s.clock + 1 }
does s a (LoadLock l found) = now s a (found (s.locks l))
does s a (LoadValue l found) = now s a (found (s.values l))
does s a (ExchangeLock l k won lost) = exchanged s a l k won lost (s.locks l)
does s a (StoreValue l v after) = record (now s a after) { values = put s.values l v }
does s a (StoreLock l w after) = record (now s a after) { locks = put s.locks l w }

-- Whether a step ends its transaction.
pub data StepEnd : Type 0 where
  GoesOn : StepEnd
  Commits : (r : Record) → StepEnd
  Aborts : (e : Ended) → StepEnd

-- a writer commits by its first value store
abbrev pub first_step_end : ℕ → Actor → Entries → StepEnd
first_step_end a x [] = GoesOn
first_step_end a x (e ∷ es) = Commits (record { actor = a; number = x.wv; writer = true; calls = x.calls })

-- a reader commits by the load of the clock that ends it
abbrev pub step_end : ℕ → Actor → Place → StepEnd
step_end a x First = first_step_end a x x.writes
step_end a x Close = Commits (record { actor = a; number = x.rv; writer = false; calls = x.calls })
step_end a x Leave = Aborts (record { actor = a; rv = x.rv; calls = x.calls })
step_end a x p = GoesOn

-- the world that has taken note of it
abbrev pub noted : World → StepEnd → World
noted s GoesOn = s
noted s (Commits r) = record s { history = insert r s.history }
noted s (Aborts e) = record s { aborted = s.aborted ++ e ∷ [] }

-- the next atomic step of actor a, which is x and stands at this place
abbrev pub step : World → ℕ → Actor → Place → World
step s a x p = noted (does s a (plan x p)) (step_end a x p)

-- A request of an actor, or its next atomic step.
pub data Event : Type 0 where
  Ask : (a : ℕ) → (request : Request) → Event
  Step : (a : ℕ) → Event

-- the world after an event
abbrev pub happens : World → Event → World
happens s (Ask a request) = now s a (ask (s.actors a) (s.actors a).place request)
happens s (Step a) = step s a (s.actors a) (s.actors a).place

-- the world after a whole schedule
abbrev pub run : List Event → World → World
run [] s = s
run (e ∷ es) s = run es (happens s e)

-- an actor that has asked for nothing
abbrev pub blank : Actor
blank = record { place = Idle; declared = false; rv = 0; wv = 0; reads = []; writes = []; held = []; calls = [] }

-- the opening: every lock word is 0
abbrev pub start : ℕ → Memory → World
start clock memory =
    record {
      opening = memory;
      clock = clock;
      locks = λ l. Free 0;
      values = memory;
      history = [];
      aborted = [];
      actors = λ a. blank;
    }
