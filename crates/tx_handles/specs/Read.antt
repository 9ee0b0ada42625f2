-- What is read at the end of a collection that may lie over several gates.
use Rattle.std.specs.Prelude.{◌≡◌, ℕ, zero, suc, ◌+◌, ◌-◌, List, [], ◌++◌, length, Option, Some, None, slice_get}
use Rattle.std.specs.Ordering.{nat_cmp}
use Rattle.std.specs.FinMap.{FinMap, entries, from_entries, len}
use Rattle.seq_model.specs.declared.held.Held.{Held}
use Rattle.seq_model.specs.declared.held.Held.TheVariants as held
use Rattle.tx_handles.specs.declared.contents_over.BagIter.{BagIter}
use Rattle.tx_handles.specs.declared.contents_over.MapIter.{MapIter}

-- the entries of a part that was begun
abbrev pub left_in : {A : Type 0} → Option (List A) → List A
left_in (Some part) = part
left_in None = []

-- These are all entries of the map, each once.
pub record HasAll {X : Type 0} (es : List (ℕ × X)) (whole : FinMap nat_cmp X) : Type 0 where
  pub same : from_entries es ≡ whole
  pub once : length es ≡ len whole

module _ {V : Type 0} where
  -- the entries of a map, and of a multiset
  abbrev pub map_entries : Option (Held V) → List (ℕ × V)
  map_entries (Some (held.Map m)) = entries m
  map_entries (Some (held.Bag m)) = []
  map_entries (Some (held.Pq m)) = []
  map_entries (Some (held.Queue head items)) = []
  map_entries None = []

  abbrev pub bag_entries : Option (Held V) → List (ℕ × ℕ)
  bag_entries (Some (held.Map m)) = []
  bag_entries (Some (held.Bag m)) = entries m
  bag_entries (Some (held.Pq m)) = []
  bag_entries (Some (held.Queue head items)) = []
  bag_entries None = []

  -- those of so many collections from this number on, one collection after another
  abbrev pub entries_from : {X : Type 0} → (Option (Held V) → List (ℕ × X)) → List (Held V) → ℕ → ℕ → List (ℕ × X)
  entries_from entries hs number zero = []
  entries_from entries hs number (suc n) = entries (slice_get hs number) ++ entries_from entries hs (number + 1) n

  -- what is left of them
  abbrev pub map_left : MapIter V → List (ℕ × V)
  map_left it = left_in it.part ++ entries_from map_entries it.held.now (it.gates.first + it.place) (it.gates.others + 1 - it.place)

  abbrev pub bag_left : BagIter V → List (ℕ × ℕ)
  bag_left it = left_in it.part ++ entries_from bag_entries it.held.now (it.gates.first + it.place) (it.gates.others + 1 - it.place)
