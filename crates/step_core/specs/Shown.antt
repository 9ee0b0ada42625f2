-- What callers see of the running words, and the worlds of the machine that it shows.
use Rattle.std.specs.Prelude.{◌≡◌, ℕ, Bool, true, List, [], ◌∷◌, ◌++◌, length, map, get_or, drop, Option, Some, None, Result, Ok, nat_le}
use Rattle.std.specs.Prelude.{◌&&◌, if◌then◌else◌}
use Rattle.vlock_word.specs.LockWord.{unbits}
use Rattle.tx_sets.specs.Entries.{Entries, locations}
use Rattle.tx_machine.specs.Actor as machine
use Rattle.tx_machine.specs.Requests.{Request, ask}
use Rattle.tx_machine.specs.World as world
use Rattle.tx_machine.specs.World.{World, Memory, Event, Ask, Step, StepEnd, GoesOn, Commits, Aborts, step_end, happens, run, start}
use Rattle.tx_machine.specs.World.{in_order, blank}
use Rattle.tx_machine.specs.Notices.{notice, reply}
use Rattle.step_core.specs.declared.actor.Place.{Place}
use Rattle.step_core.specs.declared.actor.Place.TheVariants.{Idle, Begin, Open, Look, Fetch, Again, Lock, Take, Check, Broken, First, Store}
use Rattle.step_core.specs.declared.actor.Place.TheVariants.{Release, Undo, Leave, Close}
use Rattle.step_core.specs.declared.record.WordCall.{WordCall}
use Rattle.step_core.specs.declared.record.WordCall.TheVariants.{Read, Write}
use Rattle.step_core.specs.declared.record.WordRecord.{WordRecord}
use Rattle.step_core.specs.declared.answer.WordAnswer.{WordAnswer}
use Rattle.step_core.specs.declared.answer.WordRefusal.{WordRefusal}
use Rattle.step_core.specs.declared.answer.WordRefusal.TheVariants.{NoSuch, Memory as OutOfMemory}
use Rattle.step_core.specs.declared.actor.Actor.{Actor}
use Rattle.step_core.specs.declared.machine.Machine.{Machine}
use Rattle.step_core.specs.declared.machine.TheConstants.{LAST_ACTOR}
use Rattle.step_core.specs.Answers.{result_of}
use Rattle.step_core.specs.Phases.{phase_of, allows, refusal_at}

-- a place names its next location by its index in the read or write set
abbrev pub place_of : Entries → Entries → Place → machine.Place
place_of r w Idle = machine.Idle
place_of r w Begin = machine.Begin
place_of r w Open = machine.Open
place_of r w (Look l) = machine.Look l
place_of r w (Fetch l k) = machine.Fetch l k
place_of r w (Again l k v) = machine.Again l k v
place_of r w (Lock i) = machine.Lock (drop i (locations w))
place_of r w (Take l k i) = machine.Take l k (drop i (locations w))
place_of r w (Check i) = machine.Check (drop i (locations r))
place_of r w Broken = machine.Broken
place_of r w First = machine.First
place_of r w (Store i) = machine.Store (drop i (locations w))
place_of r w Release = machine.Release
place_of r w Undo = machine.Undo
place_of r w Leave = machine.Leave
place_of r w Close = machine.Close

-- a call of the machine
abbrev pub call_of : WordCall → machine.Call
call_of (Read l v) = machine.Read l v
call_of (Write l v) = machine.Write l v

-- an actor's record in the machine
abbrev pub actor_of : Actor → machine.Actor
actor_of x =
    record {
      place = place_of x.reads.entries x.writes.entries x.place;
      declared = x.declared;
      rv = x.rv;
      wv = x.wv;
      reads = x.reads.entries;
      writes = x.writes.entries;
      held = x.held.items;
      calls = map call_of x.calls.items;
    }

-- a request is one of the phase
abbrev pub IsAllowed : Actor → Request → Type 0
IsAllowed x request = allows (phase_of (actor_of x) (actor_of x).place) request ≡ true

-- the machine's record after a request
abbrev pub asked : Actor → Request → machine.Actor
asked x request = ask (actor_of x) (actor_of x).place request

-- the answer to a request is the machine's
abbrev pub Replies : Actor → Request → Option WordAnswer → Type 0
Replies x request answer = Ok answer ≡ result_of (reply (actor_of x) (actor_of x).place request)

-- a committed transaction of the machine
abbrev pub record_of : WordRecord → world.Record
record_of r = record { actor = r.actor; number = r.number; writer = r.writes; calls = map call_of r.calls }

-- What callers see.
pub record Shown : Type 0 where
  pub clock : ℕ
  pub locks : List ℕ
  pub values : List ℕ
  pub actors : List machine.Actor
  pub history : List world.Record  -- as committed

-- what the fields show
abbrev pub shown : Machine → Shown
shown w =
    record {
      clock = w.cells.clock;
      locks = w.cells.locks.items;
      values = w.cells.values.items;
      actors = map actor_of w.actors.items;
      history = map record_of w.history.items;
    }

-- the record of actor a
abbrev pub actor_in : Shown → ℕ → machine.Actor
actor_in v a = get_or v.actors a blank

-- v shows the world s
pub record Shows (v : Shown) (s : World) : Type 0 where
  pub clock : s.clock ≡ v.clock
  pub locks : (l : ℕ) → s.locks l ≡ unbits (get_or v.locks l 0)
  pub values : (l : ℕ) → s.values l ≡ get_or v.values l 0
  pub actors : (a : ℕ) → s.actors a ≡ get_or v.actors a blank
  pub history : s.history ≡ in_order [] v.history

-- what a step has committed is listed last
abbrev pub listed : List world.Record → StepEnd → List world.Record
listed rs GoesOn = rs
listed rs (Commits r) = rs ++ r ∷ []
listed rs (Aborts e) = rs

-- u has as many words as v, and lists after the records of v what a step with this outcome has committed
abbrev pub Lists : Shown → StepEnd → Shown → Type 0
Lists v o u = (length u.values ≡ length v.values) × (u.history ≡ listed v.history o)

-- v becomes u by one step of actor a, which answers r
abbrev pub Steps : Shown → ℕ → Shown → Result (Option WordAnswer) WordRefusal → Type 0
Steps v a u r =
    (s : World) → Shows v s
    → Shows u (happens s (Step a)) × (r ≡ result_of (notice s (s.actors a) (s.actors a).place))
    × Lists v (step_end a (s.actors a) (s.actors a).place) u

-- v becomes u by a request of actor a, which is answered so, or by a step of its own where the answer is None
abbrev pub Asks : Shown → ℕ → Request → Shown → Option WordAnswer → Type 0
Asks v a request u answer =
    (s : World) → Shows v s
    → Shows u (happens s (Ask a request)) × (Ok answer ≡ result_of (reply (s.actors a) (s.actors a).place request)) × Lists v GoesOn u

-- the actors are 1 to 64
abbrev pub is_actor : ℕ → Bool
is_actor a = nat_le 1 a && nat_le a LAST_ACTOR

-- why a request of actor a is refused, memory aside
abbrev pub refusal_of : Shown → ℕ → Request → Option WordRefusal
refusal_of v a request =
    if is_actor a then refusal_at (length v.values) (actor_in v a) (actor_in v a).place request else Some NoSuch

-- a refusal is the one named, or else an allocation failed
abbrev pub IsRefusal : Option WordRefusal → WordRefusal → Type 0
IsRefusal (Some named) refusal = refusal ≡ named
IsRefusal None refusal = refusal ≡ OutOfMemory

-- Some schedule reached what v shows.
pub record Reached (v : Shown) : Type 0 where
  pub clock : ℕ
  pub opening : Memory
  pub events : List Event
  pub shows : Shows v (run events (start clock opening))

-- the clock with which an open transaction began
abbrev pub snapshot_of : machine.Actor → machine.Place → Option ℕ
snapshot_of x machine.Idle = None
snapshot_of x machine.Begin = None
snapshot_of x (machine.Store ls) = None
snapshot_of x machine.Release = None
snapshot_of x p = Some x.rv
