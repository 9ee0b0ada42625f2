-- What a request makes of its actor's record. A request does no atomic step.
use Rattle.std.specs.Prelude.{ℕ, Bool, true, false, Option, Some, None, [], ◌∷◌, ◌++◌}
use Rattle.tx_sets.specs.Entries.{Entries, lookup, with_entry, locations}
use Rattle.tx_machine.specs.Actor.{Call, Read, Write, Place, Idle, Begin, Open, Look, Fetch, Again, Lock, Take, Check, Broken, First}
use Rattle.tx_machine.specs.Actor.{Store, Release, Undo, Leave, Close, Actor, goes}

-- What may be asked of an actor.
pub data Request : Type 0 where
  AskBegin AskBeginRead AskLock AskStore AskRelease AskCancel AskAbort AskClose : Request
  AskRead : (l : ℕ) → Request
  AskWrite : (l v : ℕ) → Request

-- a transaction is to begin, of a declared reader or not
abbrev pub begin : Actor → Bool → Actor
begin x declared = record x { place = Begin; declared = declared }

-- a read that a set answers
abbrev pub replied : Actor → Call → Actor
replied x c = record x { place = Open; calls = x.calls ++ c ∷ [] }

-- the write set answers before the read set
abbrev pub read : Actor → ℕ → Option ℕ → Option ℕ → Actor
read x l (Some v) seen = replied x (Read l v)
read x l None (Some v) = replied x (Read l v)
read x l None None = goes x (Look l)

-- a write is kept in the write set
abbrev pub wrote : Actor → ℕ → ℕ → Actor
wrote x l v = record x { place = Open; writes = with_entry x.writes l v; calls = x.calls ++ Write l v ∷ [] }

-- a declared reader writes nothing
abbrev pub write : Actor → Bool → ℕ → ℕ → Actor
write x true l v = x
write x false l v = wrote x l v

-- a writer commits from its locks on
abbrev pub lock : Actor → Entries → Actor
lock x [] = x
lock x (e ∷ es) = goes x (Lock (locations (e ∷ es)))

-- a reader commits by one load of the clock
abbrev pub close : Actor → Entries → Actor
close x [] = goes x Close
close x (e ∷ es) = x

-- a transaction that holds no lock any more can end
abbrev pub abort : Actor → Entries → Actor
abort x [] = goes x Leave
abort x (e ∷ es) = x

-- the record after a request; one at a place that lacks it changes nothing
abbrev pub ask : Actor → Place → Request → Actor
ask x Idle AskBegin = begin x false
ask x Idle AskBeginRead = begin x true
ask x Open (AskRead l) = read x l (lookup x.writes l) (lookup x.reads l)
ask x Open (AskWrite l v) = write x x.declared l v
ask x Open AskLock = lock x x.writes
ask x Open AskClose = close x x.writes
ask x Open AskAbort = goes x Leave
ask x (Look l) AskAbort = goes x Leave
ask x (Fetch l k) AskAbort = goes x Leave
ask x (Again l k v) AskAbort = goes x Leave
ask x Close AskAbort = goes x Leave
ask x Begin AskAbort = goes x Idle
ask x (Lock ls) AskCancel = goes x Undo
ask x (Take l k ls) AskCancel = goes x Undo
ask x (Check ls) AskCancel = goes x Undo
ask x Broken AskCancel = goes x Undo
ask x (Check []) AskStore = goes x First
ask x (Store []) AskRelease = goes x Release
ask x Undo AskAbort = abort x x.held
ask x p request = x
