-- When a refusal is true, and what it leaves.
use Rattle.std.specs.Prelude.{◌≡◌, ◌≢◌, ℕ, ◌<◌, ◌≤◌, ◌⊎◌, true, None, ◌∷◌}
use Rattle.vlock_word.specs.declared.lock_word.LockWord.{LockWord}
use Rattle.vlock_word.specs.declared.lock_word.LockWord.TheVariants.{Free}
use Rattle.vlock_word.specs.LockWord.{version_of, is_locked_word, bits}
use Rattle.tx_sets.specs.Entries.{lookup}
use Rattle.tx_machine.specs.Actor.{Place, Begin, Look, Again, Lock, Take, Check, Broken, First, Store, Release, Undo, Leave, Actor}
use Rattle.tx_machine.specs.Actor.{clock_limit}
use Rattle.tx_machine.specs.Notices.{Notice, NoTransaction, Moved, Busy, Invalid, Exhausted}
use Rattle.tx_machine.specs.World.{World}

-- what stops a read: a word that is locked or newer than its transaction, or that has changed since the first load
abbrev pub StopsRead : Actor → Place → LockWord → Type 0
StopsRead x (Look l) w = (is_locked_word w ≡ true) ⊎ (x.rv < version_of w)
StopsRead x (Again l k v) w = w ≢ Free k
StopsRead x p w = ⊥

-- what stops a lock: a word that is locked, or that has changed since its load
abbrev pub StopsLock : Place → LockWord → Type 0
StopsLock (Lock ls) w = is_locked_word w ≡ true
StopsLock (Take l k ls) w = w ≢ Free k
StopsLock p w = ⊥

-- what stops a check: a word that is newer than its transaction, or locked by another
abbrev pub StopsCheck : Actor → Place → ℕ → LockWord → Type 0
StopsCheck x (Check ls) l w = (x.rv < version_of w) ⊎ ((is_locked_word w ≡ true) × (lookup x.held l ≡ None))
StopsCheck x p l w = ⊥

-- a refusal names the word that the step finds, and that word is a cause of it
abbrev pub IsTrue : World → Actor → Place → Notice → Type 0
IsTrue s x p (Moved l word) = (word ≡ bits (s.locks l)) × StopsRead x p (s.locks l)
IsTrue s x p (Busy l word) = (word ≡ bits (s.locks l)) × StopsLock p (s.locks l)
IsTrue s x p (Invalid l word) = (word ≡ bits (s.locks l)) × StopsCheck x p l (s.locks l)
IsTrue s x p (Exhausted clock) = (clock ≡ s.clock) × (clock_limit ≤ clock) × (p ≡ Begin)
IsTrue s x p n = Unit {0}

-- the location whose lock word the next step at this place finds
abbrev pub IsAt : Place → ℕ → Type 0
IsAt (Look i) l = i ≡ l
IsAt (Again i k v) l = i ≡ l
IsAt (Lock (i ∷ ls)) l = i ≡ l
IsAt (Take i k ls) l = i ≡ l
IsAt (Check (i ∷ ls)) l = i ≡ l
IsAt p l = ⊥

-- a refusal for a conflict names the location at which its actor stands
abbrev pub NamesPlace : Place → Notice → Type 0
NamesPlace p (Moved l word) = IsAt p l
NamesPlace p (Busy l word) = IsAt p l
NamesPlace p (Invalid l word) = IsAt p l
NamesPlace p n = Unit {0}

-- any refusal
abbrev pub IsRefused : Notice → Type 0
IsRefused NoTransaction = Unit {0}
IsRefused (Moved l word) = Unit {0}
IsRefused (Busy l word) = Unit {0}
IsRefused (Invalid l word) = Unit {0}
IsRefused (Exhausted clock) = Unit {0}
IsRefused n = ⊥

-- a transaction that can only give its locks back and end
abbrev pub IsEnding : Place → Type 0
IsEnding Broken = Unit {0}
IsEnding Undo = Unit {0}
IsEnding Leave = Unit {0}
IsEnding p = ⊥

-- a step of a commit, from its first value store to its last release
abbrev pub IsCommitting : Place → Type 0
IsCommitting First = Unit {0}
IsCommitting (Store (l ∷ ls)) = Unit {0}
IsCommitting Release = Unit {0}
IsCommitting p = ⊥
