-- An actor with its transaction, and what each atomic step makes of its own record, by the word that the step found.
use Rattle.std.specs.Prelude.{ℕ, ◌+◌, Bool, true, false, Option, Some, None, List, [], ◌∷◌, ◌++◌, ◌==◌, nat_le, nat_lt, if◌then◌else◌}
use Rattle.vlock_word.specs.declared.lock_word.LockWord.{LockWord}
use Rattle.vlock_word.specs.declared.lock_word.LockWord.TheVariants.{Free, Locked}
use Rattle.tx_sets.specs.Entries.{Entries, with_entry, locations}

-- A call of a transaction, with its reply.
pub data Call : Type 0 where
  Read : (location reply : ℕ) → Call
  Write : (location value : ℕ) → Call

-- Where an actor stands. Each place but the idle ones is the next atomic step.
pub data Place : Type 0 where
  Idle : Place  -- idle
  Begin : Place  -- load the clock
  Open : Place  -- idle
  Look : (l : ℕ) → Place  -- load the lock word
  Fetch : (l k : ℕ) → Place  -- load the value, after version k
  Again : (l k v : ℕ) → Place  -- load the lock word again
  Lock : (ls : List ℕ) → Place  -- load the next lock word; with none left, advance the clock
  Take : (l k : ℕ) → (ls : List ℕ) → Place  -- compare_exchange from free at k to locked
  Check : (ls : List ℕ) → Place  -- load the next lock word of the read set; idle with none left
  Broken : Place  -- idle, after a refused lock or check
  First : Place  -- the first value store, which commits
  Store : (ls : List ℕ) → Place  -- the next value store; idle with none left
  Release : Place  -- store the next lock word with the new version
  Undo : Place  -- store the next old lock word; idle with none left
  Leave : Place  -- load the clock, which ends an aborted transaction
  Close : Place  -- load the clock, which commits a reader

-- An actor's own record.
pub record Actor : Type 0 where
  pub place : Place
  pub declared : Bool  -- whether it began as a reader, which writes nothing and keeps no read set
  pub rv : ℕ  -- the clock as the transaction began
  pub wv : ℕ  -- the number of its commit
  pub reads : Entries  -- the read set: locations with the values that were read
  pub writes : Entries  -- the write set: locations with the values to be stored
  pub held : Entries  -- the locks that it holds, with their old versions, in the order in which it took them
  pub calls : List Call

-- the clock from which on no transaction begins
abbrev pub clock_limit : ℕ
clock_limit = 4611686018427387904

-- the same transaction at another place
abbrev pub goes : Actor → Place → Actor
goes x p = record x { place = p }

-- a new transaction, of a declared reader or not
abbrev pub opened : Bool → ℕ → Actor
opened declared clock = record { place = Open; declared = declared; rv = clock; wv = 0; reads = []; writes = []; held = []; calls = [] }

-- the clock was loaded to begin
abbrev pub begun : Actor → ℕ → Actor
begun x clock = if nat_lt clock clock_limit then opened x.declared clock else goes x Idle

-- the lock word of a location was loaded to read it
abbrev pub seen : Actor → ℕ → LockWord → Actor
seen x l (Free k) = if nat_le k x.rv then goes x (Fetch l k) else goes x Undo
seen x l (Locked k) = goes x Undo

-- the read set with one read more; a declared reader keeps none
abbrev pub with_read : Bool → Entries → ℕ → ℕ → Entries
with_read true reads l v = reads
with_read false reads l v = with_entry reads l v

-- a read was answered
abbrev pub has_read : Actor → ℕ → ℕ → Actor
has_read x l v = record x { place = Open; reads = with_read x.declared x.reads l v; calls = x.calls ++ Read l v ∷ [] }

-- the lock word was loaded again, after value v between two loads
abbrev pub seen_again : Actor → ℕ → ℕ → ℕ → LockWord → Actor
seen_again x l k v (Free j) = if j == k then has_read x l v else goes x Undo
seen_again x l k v (Locked j) = goes x Undo

-- the lock word of a written location was loaded to lock it, with ls still to come
abbrev pub seen_to_lock : Actor → ℕ → List ℕ → LockWord → Actor
seen_to_lock x l ls (Free k) = goes x (Take l k ls)
seen_to_lock x l ls (Locked k) = goes x Broken

-- a lock was taken at version k
abbrev pub taken : Actor → ℕ → ℕ → List ℕ → Actor
taken x l k ls = record x { place = Lock ls; held = x.held ++ (l, k) ∷ [] }

-- the locations that a commit of number wv has to check: none where no other commit took a number since it began
abbrev pub to_check : Actor → ℕ → List ℕ
to_check x wv = if x.rv + 1 == wv then [] else locations x.reads

-- the clock was advanced to the number of this commit
abbrev pub stamped_at : Actor → ℕ → Actor
stamped_at x wv = record x { place = Check (to_check x wv); wv = wv }

-- the lock word of a read location was loaded for the check; a word that this transaction itself has locked, as it is in its write set,
-- is judged by its old version
abbrev pub seen_in_check : Actor → List ℕ → LockWord → Option ℕ → Actor
seen_in_check x ls (Free k) own = if nat_le k x.rv then goes x (Check ls) else goes x Broken
seen_in_check x ls (Locked k) (Some value) = if nat_le k x.rv then goes x (Check ls) else goes x Broken
seen_in_check x ls (Locked k) None = goes x Broken

-- a lock was given back, and these are left
abbrev pub freed : Actor → Entries → Place → Actor
freed x held p = record x { place = p; held = held }

-- where a commit stands after a release
abbrev pub after_release : Entries → Place
after_release [] = Idle
after_release (e ∷ es) = Release
