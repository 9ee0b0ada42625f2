-- What a set of accesses holds, and what a put needs.
use Rattle.std.specs.Prelude.{◌≡◌, ℕ, ◌<◌, ◌≤◌, ◌-◌, ◌*◌, ◌/◌, ◌%◌, ◌↔◌, List, get_or, length, None, Result, MatchResult}
use Rattle.std.specs.List.{HoldsAt}
use Rattle.std.specs.List.Sorted.{IsPartitionPoint}
use Rattle.tx_sets.specs.Entries.{Entries, IsRising, lookup}
use Rattle.tx_sets.specs.declared.access_set.TheConstants.{LOCATION_LIMIT, CHAINS, SPREAD}

-- the entries, and how many more there is memory for
pub record SetView : Type 0 where
  pub entries : Entries
  pub room : ℕ

-- what the entries of a set keep to
pub record AreOrderly (es : Entries) : Type 0 where
  pub rising : IsRising es
  pub within : length es ≤ LOCATION_LIMIT

-- the chain in which a location is linked
unfoldable pub chain_of : ℕ → ℕ
chain_of location = location * SPREAD % 4294967296 / 16777216

-- one more than the last place below `n` of a location of this chain, or 0 where there is none
abbrev pub IsLast : Entries → ℕ → ℕ → ℕ → Type 0
IsLast links c n p =
    (p ≤ n) × ((k : ℕ) (d : ℕ × ℕ) → k < n → chain_of (get_or links k d).0 ≡ c → k < p)
    × ((d : ℕ × ℕ) → 0 < p → chain_of (get_or links (p - 1) d).0 ≡ c)

-- this is such a place among all locations, if any is of this chain; else nothing is said of it
abbrev pub IsHead : Entries → ℕ → ℕ → Type 0
IsHead links c p = (k : ℕ) (d : ℕ × ℕ) → k < length links → chain_of (get_or links k d).0 ≡ c → IsLast links c (length links) p

-- each location is linked to the last one before it in its chain
abbrev pub AreLinked : Entries → Type 0
AreLinked links = (i : ℕ) (d : ℕ × ℕ) → i < length links → IsLast links (chain_of (get_or links i d).0) i (get_or links i d).1

-- a location that is not among the linked ones
abbrev pub LacksLink : ℕ → Entries → Type 0
LacksLink location links = (k : ℕ) (d : ℕ × ℕ) → k < length links → (get_or links k d).0 ≡ location → ⊥

-- the linked locations are those that have an entry
abbrev pub HaveSameLocations : Entries → Entries → Type 0
HaveSameLocations links es = (location : ℕ) → LacksLink location links ↔ (lookup es location ≡ None)

-- each location that is there, and no other, is linked, and reached from the head of its chain
pub record HasLinks (heads : List ℕ) (links : Entries) (es : Entries) : Type 0 where
  pub orderly : AreOrderly es
  pub headed : (c : ℕ) → c < CHAINS → IsHead links c (get_or heads c 0)
  pub linked : AreLinked links
  pub same : HaveSameLocations links es

-- the location is new, and there are as many as there may be
abbrev pub IsBeyondLimit : SetView → ℕ → Type 0
IsBeyondLimit set location = (lookup set.entries location ≡ None) × (LOCATION_LIMIT ≤ length set.entries)

-- the location is new, and there is no memory for its entry
abbrev pub LacksRoom : SetView → ℕ → Type 0
LacksRoom set location = (lookup set.entries location ≡ None) × (set.room ≡ 0)

-- what a search for a location answers: where its entry is, or where it would go
abbrev pub IsPositionOf : ℕ → Entries → Result ℕ ℕ → Type 0
IsPositionOf location es place =
    MatchResult place (λ i. (i < length es) × HoldsAt (λ e. e.0 ≡ location) es i)
    (λ i. (i ≤ length es) × IsPartitionPoint (λ e. e.0 < location) (λ e. location < e.0) es i)
