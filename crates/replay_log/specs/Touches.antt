-- What is copied of a map or a multiset for a call: a key, or how many keys each stripe has, or their sum.
use Rattle.std.specs.Prelude.{ℕ, List, [], ◌∷◌, Option, Some, None, slice_index}
use Rattle.std.specs.List.{sum}
use Rattle.std.specs.Ordering.{nat_cmp}
use Rattle.std.specs.FinMap.{FinMap, get, len}
use Rattle.seq_model.specs.declared.call.Op.{Op}
use Rattle.seq_model.specs.declared.call.Op.TheVariants.{Get, Put, Remove, Len, Count, Add, Take}
use Rattle.seq_model.specs.Counts.{copies}
use Rattle.conflict.specs.Counts.{stripe_counts}
use Rattle.conflict.specs.Footprints.{all_below, key_location}
use Rattle.replay_log.specs.Base.{Shown, OfMap, OfBag}
use Rattle.replay_log.specs.declared.touch.TouchedKey.{TouchedKey}
use Rattle.replay_log.specs.declared.touch.TouchedKey.TheVariants.{Entry, Copies, Counts, Total}

-- the editions of these locations
abbrev pub editions_at : List ℕ → List ℕ → List (ℕ × ℕ)
editions_at [] editions = []
editions_at (l ∷ ls) editions = (l, slice_index editions l) ∷ editions_at ls editions

-- the locations of what is touched, in n stripes
abbrev pub touched_locations : {V : Type 0} → ℕ → TouchedKey V → List ℕ
touched_locations n (Entry k o) = key_location n k ∷ []
touched_locations n (Copies x c) = key_location n x ∷ []
touched_locations n (Counts cs) = all_below n
touched_locations n (Total t) = all_below n

-- what a call touches, in n stripes; nothing, if it is of another kind than a map or a multiset
abbrev pub touched_by : {V : Type 0} → ℕ → Op V → Shown V → Option (TouchedKey V)
touched_by n (Get k) (OfMap m) = Some (Entry k (get m k))
touched_by n (Put k v) (OfMap m) = Some (Entry k (get m k))
touched_by n (Remove k) (OfMap m) = Some (Entry k (get m k))
touched_by n Len (OfMap m) = Some (Counts (stripe_counts n m))
touched_by n (Count x) (OfBag m) = Some (Copies x (copies m x))
touched_by n (Add x) (OfBag m) = Some (Copies x (copies m x))
touched_by n (Take x) (OfBag m) = Some (Copies x (copies m x))
touched_by n op s = None

-- the same with the counts summed: the number of all keys, which a map has at hand
abbrev pub summed : {V : Type 0} → TouchedKey V → TouchedKey V
summed (Counts cs) = Total (sum cs)
summed t = t

abbrev pub map_summed_by : {V : Type 0} → ℕ → Op V → FinMap nat_cmp V → Option (TouchedKey V)
map_summed_by n Len m = Some (Total (len m))
map_summed_by n op m = touched_by n op (OfMap m)

abbrev pub summed_by : {V : Type 0} → ℕ → Op V → Shown V → Option (TouchedKey V)
summed_by n op (OfMap m) = map_summed_by n op m
summed_by n op s = touched_by n op s
