-- Where the words of the machine and the gates are in the table: the clock, then each location's lock word with its value beside it, then
-- the gates, eight words apart, so that no two are in one line of the cache, nor one beside a value, nor the clock beside a lock word. In a
-- small table each location is in a line of its own, in a larger one four share a line.
use Rattle.std.specs.Prelude.{◌≡◌, ℕ, ◌+◌, ◌*◌, ◌<◌, List, length, get_or, nat_le, if◌then◌else◌, map}
use Rattle.std.specs.List.{range_with_len}
use Rattle.tx_machine.specs.Cells.{Cell, ClockCell, LockCell, ValueCell}
use Rattle.shared_table.specs.declared.layout.TheConstants.{WIDE_LIMIT}

-- how many words lie from one of n locations to the next
abbrev pub stride : ℕ → ℕ
stride n = if nat_le n WIDE_LIMIT then 8 else 2

-- the place in the table of a word of the machine, with n locations
abbrev pub address : ℕ → Cell → ℕ
address n ClockCell = 0
address n (LockCell l) = 8 + stride n * l
address n (ValueCell l) = 9 + stride n * l

-- the place in the table of the gate of collection k, with n locations
abbrev pub gate_address : ℕ → ℕ → ℕ
gate_address n k = 16 + stride n * n + 8 * k

-- there is such a word where there are n locations
abbrev pub IsInside : ℕ → Cell → Type 0
IsInside n ClockCell = Unit {0}
IsInside n (LockCell l) = l < n
IsInside n (ValueCell l) = l < n

-- how many words there are, with m gates
abbrev pub width : ℕ → ℕ → ℕ
width n m = 16 + stride n * n + 8 * m

-- the values of the first m of n locations, in the words of a table
abbrev pub values_in : (n m : ℕ) → List ℕ → List ℕ
values_in n m words = map (λ l. get_or words (address n (ValueCell l)) 0) (range_with_len 0 m)

-- These are the words of a table with m gates: all lock words and gates are free, the clock is c, and the first d of the locations have
-- these values.
pub record IsLaidOut (c : ℕ) (values : List ℕ) (d m : ℕ) (words : List ℕ) : Type 0 where
  pub wide : length words ≡ width (length values) m
  pub clock : get_or words 0 0 ≡ c
  pub locks : (l : ℕ) → l < length values → get_or words (address (length values) (LockCell l)) 0 ≡ 0
  pub valued : (l : ℕ) → l < d → get_or words (address (length values) (ValueCell l)) 0 ≡ get_or values l 0
  pub gates : (k : ℕ) → k < m → get_or words (gate_address (length values) k) 0 ≡ 0
