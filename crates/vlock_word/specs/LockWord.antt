-- The lock word of a location and its number.
use Rattle.std.specs.Prelude.{ℕ, ◌+◌, ◌*◌, ◌/◌, ◌%◌, ◌==◌, Bool, true, false, nat_le, if◌then◌else◌}
use Rattle.vlock_word.specs.declared.lock_word.LockWord.{LockWord}
use Rattle.vlock_word.specs.declared.lock_word.LockWord.TheVariants.{Free, Locked}

-- the number of the commit that wrote the location last
abbrev pub version_of : LockWord → ℕ
version_of (Free version) = version
version_of (Locked version) = version

abbrev pub is_locked_word : LockWord → Bool
is_locked_word (Free version) = false
is_locked_word (Locked version) = true

-- free, and written by no commit after rv
abbrev pub is_usable_at : LockWord → ℕ → Bool
is_usable_at (Free version) rv = nat_le version rv
is_usable_at (Locked version) rv = false

-- the number of a lock word: 2 * version + locked
abbrev pub bits : LockWord → ℕ
bits (Free version) = 2 * version
bits (Locked version) = 2 * version + 1

-- the lock word of a number
unfoldable pub unbits : ℕ → LockWord
unbits word = if word % 2 == 0 then Free (word / 2) else Locked (word / 2)
