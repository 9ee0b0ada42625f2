-- What the code needs of its fields besides what they show: bounds, and the room for what the steps will push.
use Rattle.std.specs.Prelude.{◌≡◌, ℕ, false, ◌+◌, ◌-◌, ◌^◌, ◌<◌, ◌≤◌, List, [], ◌∷◌, length, slice_get, Some}
use Rattle.std.specs.Vec.{vec_len, vec_capacity}
use Rattle.std.specs.VecDeque.{deque_len, deque_capacity}
use Rattle.std.specs.List.{All}
use Rattle.tx_sets.specs.Entries.{IsRising}
use Rattle.tx_sets.specs.declared.access_set.TheConstants.{LOCATION_LIMIT}
use Rattle.tx_machine.specs.Actor.{clock_limit}
use Rattle.tx_machine.specs.Requests.{Request, AskRead, AskWrite}
use Rattle.step_core.specs.declared.actor.Place.{Place}
use Rattle.step_core.specs.declared.actor.Place.TheVariants.{Idle, Open, Look, Fetch, Again, Lock, Take, First, Store, Release, Close}
use Rattle.step_core.specs.declared.actor.Actor.{Actor}
use Rattle.step_core.specs.declared.machine.Machine.{Machine}
use Rattle.step_core.specs.declared.machine.TheConstants.{SEATS}

-- room for one more read; a declared reader needs none
abbrev pub HasRoom : Actor → Type 0
HasRoom x = x.declared ≡ false → 0 < x.reads.room

-- the room and the bounds that a place needs, with n locations
abbrev pub FitsPlace : ℕ → Actor → Place → Type 0
FitsPlace n x (Look l) = (l < n) × HasRoom x × (length x.reads.entries < LOCATION_LIMIT) × (vec_len x.calls < vec_capacity x.calls)
FitsPlace n x (Fetch l k) = (l < n) × HasRoom x × (length x.reads.entries < LOCATION_LIMIT) × (vec_len x.calls < vec_capacity x.calls)
FitsPlace n x (Again l k v) = (l < n) × HasRoom x × (length x.reads.entries < LOCATION_LIMIT) × (vec_len x.calls < vec_capacity x.calls)
FitsPlace n x (Lock i) = deque_len x.held + (length x.writes.entries - i) ≤ deque_capacity x.held
FitsPlace n x (Take l k i) = (l < n) × (k < 2 ^ 63) × (deque_len x.held + (1 + (length x.writes.entries - i)) ≤ deque_capacity x.held)
FitsPlace n x First = x.ready.items ≡ x.calls.items
FitsPlace n x Close = x.ready.items ≡ x.calls.items
FitsPlace n x p = Unit {0}

-- An actor's record, with n locations.
pub record Fits (n : ℕ) (x : Actor) : Type 0 where
  pub reads : All (λ e. e.0 < n) x.reads.entries
  pub writes : All (λ e. e.0 < n) x.writes.entries
  pub reads_rise : IsRising x.reads.entries
  pub writes_rise : IsRising x.writes.entries
  pub reads_few : length x.reads.entries ≤ LOCATION_LIMIT
  pub writes_few : length x.writes.entries ≤ LOCATION_LIMIT
  pub held : All (λ e. (e.0 < n) × (e.1 < 2 ^ 63)) x.held.items
  pub wv : x.wv < 2 ^ 63
  pub place : FitsPlace n x x.place

-- how many numbers the actor may still take
abbrev pub owed : Place → ℕ
owed Open = 1
owed (Look l) = 1
owed (Fetch l k) = 1
owed (Again l k v) = 1
owed (Lock i) = 1
owed (Take l k i) = 1
owed p = 0

-- how many records the actor may still make
abbrev pub due : Place → ℕ
due Idle = 0
due (Store i) = 0
due Release = 0
due p = 1

-- a count over all actors
abbrev pub total : (Place → ℕ) → List Actor → ℕ
total f [] = 0
total f (x ∷ xs) = f x.place + total f xs

-- Each location has a lock word and a value, each actor a seat; the clock is far from its end, and there is room for the records to come.
pub record Sound (w : Machine) : Type 0 where
  pub same : length w.cells.values.items ≡ length w.cells.locks.items
  pub seats : length w.actors.items ≡ SEATS
  pub actors : All (Fits (length w.cells.locks.items)) w.actors.items
  pub clock : w.cells.clock + total owed w.actors.items ≤ clock_limit + SEATS
  pub room : vec_len w.history + total due w.actors.items ≤ vec_capacity w.history

-- a step keeps an actor's bounds, takes no number that was not owed and makes no record due
pub record Keeps (x y : Actor) : Type 0 where
  pub fits : (n : ℕ) → Fits n x → Fits n y
  pub owed : owed y.place ≤ owed x.place
  pub due : due y.place ≤ due x.place

-- a load of a location that is read
abbrev pub IsLoad : Place → Type 0
IsLoad (Look l) = Unit {0}
IsLoad (Fetch l k) = Unit {0}
IsLoad (Again l k v) = Unit {0}
IsLoad p = ⊥

-- what a load takes that leaves its actor here: room for one read, where it was answered, and else none
abbrev pub taken_at : Place → ℕ
taken_at Open = 1
taken_at p = 0

-- it leaves the room that there is for more calls and writes, but for what it takes
pub record KeepsRoom (x y : Actor) : Type 0 where
  pub calls : vec_capacity y.calls ≡ vec_capacity x.calls
  pub count : vec_len y.calls ≤ vec_len x.calls + taken_at y.place
  pub writes : y.writes.room ≡ x.writes.room
  pub reads : x.reads.room ≤ y.reads.room + taken_at y.place

-- actor a stands at p
abbrev pub At : Machine → ℕ → Place → Type 0
At w a p = (x : Actor) → slice_get w.actors.items a ≡ Some x → x.place ≡ p

-- the location of a request is one of n
abbrev pub IsWithin : ℕ → Request → Type 0
IsWithin n (AskRead l) = l < n
IsWithin n (AskWrite l v) = l < n
IsWithin n request = Unit {0}
