-- Whether locations fit the sets of a transaction by their number alone, whichever they are.
use Rattle.std.specs.Prelude.{ℕ, ◌+◌, Bool, ◌&&◌, ◌||◌, nat_le, length}
use Rattle.tx_sets.specs.Entries.{Entries}
use Rattle.tx_sets.specs.declared.access_set.TheConstants.{LOCATION_LIMIT}
use Rattle.tx_machine.specs.Actor.{Actor}

-- the set takes n locations more
abbrev pub takes_more : Entries → ℕ → Bool
takes_more set n = nat_le (length set + n) LOCATION_LIMIT

-- the sets take n locations more that are read, and m that are written; a declared reader has no sets
abbrev pub surely_fits : Actor → (n m : ℕ) → Bool
surely_fits x n m = x.declared || (takes_more x.reads n && takes_more x.writes m)
