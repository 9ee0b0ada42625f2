-- The writes of an accepted call.
use Rattle.std.specs.Prelude.{◌≡◌, ℕ, ◌+◌, ◌<◌, ◌≤◌, Bool, false, ◌||◌, not, nat_lt, List, [], ◌∷◌, length}
use Rattle.std.specs.Vec.{vec_capacity, vec_len}
use Rattle.tx_sets.specs.Entries.{Entries, lookup, locations}
use Rattle.tx_sets.specs.declared.access_set.TheConstants.{LOCATION_LIMIT}
use Rattle.tx_machine.specs.Actor as machine
use Rattle.tx_machine.specs.Requests as word
use Rattle.tx_machine.specs.Requests.{ask}
use Rattle.tx_machine.specs.Boosted.{is_none}
use Rattle.replay_log.specs.Worlds.{new_in}
use Rattle.step_core.specs.declared.actor.Actor.{Actor}
use Rattle.step_core.specs.declared.actor.Place.TheVariants as place
use Rattle.actor_parts.specs.declared.copies.PrivateCopy.{PrivateCopy}
use Rattle.actor_parts.specs.Footprints.{known_edition}

-- the word actor after these writes
abbrev pub written_as : machine.Actor → Entries → machine.Actor
written_as y [] = y
written_as y (d ∷ ds) = written_as (ask y y.place (word.AskWrite d.0 d.1)) ds

-- locations of a collection that begins at location f, each with the edition after the copied one
abbrev pub with_next : {V : Type 0} → PrivateCopy V → (f : ℕ) → List ℕ → Entries
with_next c f [] = []
with_next c f (l ∷ ls) = (f + l, known_edition c l + 1) ∷ with_next c f ls

-- a location is there, or fits beside the others
abbrev pub has_space : Entries → ℕ → Bool
has_space es l = not (is_none (lookup es l)) || nat_lt (length es) LOCATION_LIMIT

-- all of these may be written: there is room for them, and they fit the set
abbrev pub MayWrite : Actor → Entries → Type 0
MayWrite x ds =
    (x.place ≡ place.Open) × (0 < length ds → x.declared ≡ false) × (length ds ≤ x.writes.room)
    × (vec_len x.calls + length ds ≤ vec_capacity x.calls)
    × (length x.writes.entries + length (new_in x.writes.entries (locations ds)) ≤ LOCATION_LIMIT)
