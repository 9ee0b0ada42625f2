-- The words of the table, and the one that a step touches.
use Rattle.std.specs.Prelude.{ℕ, ◌+◌, Option, Some, None, ◌==◌, if◌then◌else◌}
use Rattle.vlock_word.specs.declared.lock_word.LockWord.TheVariants.{Free, Locked}
use Rattle.vlock_word.specs.LockWord.{bits, unbits}
use Rattle.tx_machine.specs.Actor.{Actor}
use Rattle.tx_machine.specs.World.{World, Deed, Rests, LoadClock, AddToClock, LoadLock, LoadValue, ExchangeLock, StoreValue, StoreLock}

-- A word of the table.
pub data Cell : Type 0 where
  ClockCell : Cell
  LockCell : (l : ℕ) → Cell
  ValueCell : (l : ℕ) → Cell

-- the number in a word of the table
abbrev pub cell : World → Cell → ℕ
cell s ClockCell = s.clock
cell s (LockCell l) = bits (s.locks l)
cell s (ValueCell l) = s.values l

-- the one word that an atomic step loads or changes
abbrev pub word_of : Deed → Option Cell
word_of Rests = None
word_of (LoadClock found) = Some ClockCell
word_of (AddToClock found) = Some ClockCell
word_of (LoadLock l found) = Some (LockCell l)
word_of (LoadValue l found) = Some (ValueCell l)
word_of (ExchangeLock l k won lost) = Some (LockCell l)
word_of (StoreValue l v after) = Some (ValueCell l)
word_of (StoreLock l w after) = Some (LockCell l)

-- what that word becomes of what it was
abbrev pub becomes : Deed → ℕ → ℕ
becomes (AddToClock found) n = n + 1
becomes (ExchangeLock l k won lost) n = if n == bits (Free k) then bits (Locked k) else n
becomes (StoreValue l v after) n = v
becomes (StoreLock l w after) n = bits w
becomes deed n = n

-- the actor's record, once it has found this number in that word
abbrev pub learns : Deed → Actor → ℕ → Actor
learns Rests x n = x
learns (LoadClock found) x n = found n
learns (AddToClock found) x n = found n
learns (LoadLock l found) x n = found (unbits n)
learns (LoadValue l found) x n = found n
learns (ExchangeLock l k won lost) x n = if n == bits (Free k) then won else lost
learns (StoreValue l v after) x n = after
learns (StoreLock l w after) x n = after
