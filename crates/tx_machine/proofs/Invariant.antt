-- What holds of a world after every schedule.
use Rattle.std.proofs.Common.{◌≡◌, ℕ, ◌-◌, ◌<◌, ◌≤◌, Bool, true, false, Some, None, List, [], ◌∷◌, ◌⊎◌}
use Rattle.vlock_word.specs.declared.lock_word.LockWord.TheVariants.{Locked}
use Rattle.vlock_word.specs.LockWord.{version_of}
use Rattle.tx_sets.specs.Entries.{Entries, lookup}
use Rattle.tx_machine.specs.Actor.{Call, Place, Idle, Begin, Open, Look, Fetch, Again, Lock, Take, Check, Broken, First, Store, Release}
use Rattle.tx_machine.specs.Actor.{Undo, Leave, Close, Actor}
use Rattle.tx_machine.specs.World.{Memory, Record, World}
use Rattle.tx_machine.specs.Opacity.{IsLegal, IsInOrder, IsHalfDone, AllEnded}
use Rattle.tx_machine.proofs.Sets.{IsUnique, Member}
use Rattle.tx_machine.proofs.Calls.{touched, Agrees, Sets}
use Rattle.tx_machine.proofs.Records.{settled, finals, stamp, AllRecords, base}

-- numbered, and not yet committed
abbrev pub IsPending : Place → Type 0
IsPending (Check ls) = Unit {0}
IsPending First = Unit {0}
IsPending p = ⊥

-- After the records up to number n, l holds v, now and at every later moment: whoever has such a number and is still to commit doesn't
-- write l.
pub record Good (s : World) (n l v : ℕ) : Type 0 where
  pub past : n ≤ s.clock
  pub value : settled s.history n l (s.opening l) ≡ v
  pub fixed : (b : ℕ) → IsPending (s.actors b).place → (s.actors b).wv ≤ n → lookup (s.actors b).writes l ≡ None

-- the calls are legal at the memory of number n, now and at every later moment
pub record Saw (s : World) (n : ℕ) (calls : List Call) : Type 0 where
  pub reads : Entries
  pub legal : (m : Memory) → Agrees m reads → IsLegal m calls
  pub good : (l v : ℕ) → lookup reads l ≡ Some v → Good s n l v

-- what l holds after all that has been committed
abbrev pub latest : World → ℕ → ℕ
latest s l = finals s.history l (s.opening l)

-- there is an entry
abbrev pub IsSomeEntry : Entries → Type 0
IsSomeEntry [] = ⊥
IsSomeEntry (e ∷ es) = Unit {0}

-- Each written location is locked, or still to be.
pub record Locking (writes held : Entries) (ls : List ℕ) : Type 0 where
  pub covered : (l v : ℕ) → lookup writes l ≡ Some v → Member l ls ⊎ ((k : ℕ) × (lookup held l ≡ Some k))
  pub written : (l k : ℕ) → lookup held l ≡ Some k → (v : ℕ) × (lookup writes l ≡ Some v)
  pub within : (l : ℕ) → Member l ls → (v : ℕ) × (lookup writes l ≡ Some v)
  pub some : IsSomeEntry writes

-- A commit that has its number and all its locks.
pub record Stamped (clock rv wv : ℕ) (writes held : Entries) : Type 0 where
  pub all_held : (l v : ℕ) → lookup writes l ≡ Some v → (k : ℕ) × (lookup held l ≡ Some k)
  pub written : (l k : ℕ) → lookup held l ≡ Some k → (v : ℕ) × (lookup writes l ≡ Some v)
  pub newer : (l k : ℕ) → lookup held l ≡ Some k → k < wv
  pub after_rv : rv < wv
  pub made : wv ≤ clock
  pub some : IsSomeEntry writes

-- the reads, but for those still to be checked, are as good at the number of the commit
abbrev pub Checked : World → ℕ → Entries → List ℕ → Type 0
Checked s wv reads ls = (l v : ℕ) → lookup reads l ≡ Some v → Member l ls ⊎ Good s (wv - 1) l v

-- A committed transaction that still holds locks: the words that it holds are its own, but for the values still to be stored.
pub record Done (s : World) (wv : ℕ) (writes held : Entries) (ls : List ℕ) : Type 0 where
  pub newer : (l k : ℕ) → lookup held l ≡ Some k → k < wv
  pub last : (l k : ℕ) → lookup held l ≡ Some k → stamp s.history l ≡ wv
  pub made : wv ≤ s.clock
  pub some : IsSomeEntry held
  pub value : (l k : ℕ) → lookup held l ≡ Some k → (v : ℕ) × (lookup writes l ≡ Some v) × (latest s l ≡ v)
      × ((s.values l ≡ v) ⊎ Member l ls)

abbrev pub Reading : Actor → ℕ → Type 0
Reading x l = (x.held ≡ []) × (lookup x.writes l ≡ None) × (lookup x.reads l ≡ None)

-- what an actor's place says
abbrev pub PlaceOk : World → Actor → Place → Type 0
PlaceOk s x Idle = x.held ≡ []
PlaceOk s x Begin = x.held ≡ []
PlaceOk s x Open = x.held ≡ []
PlaceOk s x (Look l) = Reading x l
PlaceOk s x (Fetch l k) = Reading x l × (k ≤ x.rv) × (k ≤ version_of (s.locks l))
PlaceOk s x (Again l k v) = Reading x l × (k ≤ x.rv) × (k ≤ version_of (s.locks l)) × (stamp s.history l ≤ k → latest s l ≡ v)
PlaceOk s x (Lock ls) = Locking x.writes x.held ls
PlaceOk s x (Take l k ls) = Locking x.writes x.held (l ∷ ls)
PlaceOk s x (Check ls) = Stamped s.clock x.rv x.wv x.writes x.held × Checked s x.wv x.reads ls
PlaceOk s x Broken = Unit {0}
PlaceOk s x First = Stamped s.clock x.rv x.wv x.writes x.held × Checked s x.wv x.reads []
PlaceOk s x (Store ls) = Done s x.wv x.writes x.held ls × ((l : ℕ) → Member l ls → (k : ℕ) × (lookup x.held l ≡ Some k))
PlaceOk s x Release = Done s x.wv x.writes x.held []
PlaceOk s x Undo = Unit {0}
PlaceOk s x Leave = x.held ≡ []
PlaceOk s x Close = (x.held ≡ []) × (x.writes ≡ [])

-- within a transaction
abbrev pub HasBegun : Place → Type 0
HasBegun Idle = ⊥
HasBegun Begin = ⊥
HasBegun p = Unit {0}

-- A transaction's read set is all that it has seen; a declared reader has neither set.
abbrev pub IsKept : Bool → Entries → Entries → Entries → Type 0
IsKept true reads writes seen = (reads ≡ []) × (writes ≡ [])
IsKept false reads writes seen = seen ≡ reads

pub record ActorOk (s : World) (x : Actor) : Type 0 where
  pub began : x.rv ≤ s.clock
  pub reads : (l v : ℕ) → lookup x.reads l ≡ Some v → Good s x.rv l v
  pub saw : Saw s x.rv x.calls
  pub sets : Sets x.writes x.calls
  pub kept : HasBegun x.place → IsKept x.declared x.reads x.writes saw.reads
  pub held : (l k : ℕ) → lookup x.held l ≡ Some k → s.locks l ≡ Locked k
  pub unique : IsUnique x.held
  pub place : PlaceOk s x x.place

pub record RecordOk (s : World) (r : Record) : Type 0 where
  pub past : r.number ≤ s.clock
  pub positive : r.writer ≡ true → 0 < r.number
  pub reader : r.writer ≡ false → (l : ℕ) → touched r.calls l ≡ false
  pub saw : Saw s (base r.writer r.number) r.calls

pub record Inv (s : World) : Type 0 where
  pub actors : (a : ℕ) → ActorOk s (s.actors a)
  -- a lock has one holder
  pub apart : (a b l j k : ℕ) → lookup (s.actors a).held l ≡ Some j → lookup (s.actors b).held l ≡ Some k → a ≡ b
  -- a number is given once
  pub numbers : (a b : ℕ) → IsPending (s.actors a).place → IsPending (s.actors b).place → (s.actors a).wv ≡ (s.actors b).wv → a ≡ b
  pub unused : (a : ℕ) → IsPending (s.actors a).place → AllRecords (λ r. (r.writer ≡ true → (s.actors a).wv ≡ r.number → ⊥)) s.history
  pub versions : (l : ℕ) → version_of (s.locks l) ≤ s.clock
  -- a word whose version is not below its last commit holds that commit's value
  pub current : (l : ℕ) → stamp s.history l ≤ version_of (s.locks l) → s.values l ≡ latest s l
  -- the version is not below the last commit, but where a half-done commit holds the lock
  pub behind : (l : ℕ) → ((a : ℕ) → IsHalfDone (s.actors a).place → lookup (s.actors a).held l ≡ None)
      → stamp s.history l ≤ version_of (s.locks l)
  pub ordered : IsInOrder s.history
  pub records : AllRecords (RecordOk s) s.history
  pub aborted : AllEnded (λ e. Saw s e.rv e.calls) s.aborted
