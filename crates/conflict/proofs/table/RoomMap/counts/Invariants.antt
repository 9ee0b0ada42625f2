use Rattle.std.proofs.Common.{◌≡◌, ℕ, ◌+◌, ◌^◌, ◌<◌, length, get_or}
use Rattle.conflict.specs.Counts.{stripe_counts}
use Rattle.conflict.proofs.CountLemmas.{counted}
use Rattle.conflict.proofs.table.RoomMap.counts.Given as goal

-- the entries that are left make the counts whole, and no count is above the number of those before them
abbrev pub invariant-loop-key : goal.invariant-loop-key
invariant-loop-key g l =
    (counted l.fn.stripes l.key-iterator l.counts.items ≡ stripe_counts l.fn.stripes l.fn.self.contents)
    × (length l.counts.items ≡ l.fn.stripes)
    × ((p : ℕ) → get_or l.counts.items p 0 + length l.key-iterator < 2 ^ 63)
