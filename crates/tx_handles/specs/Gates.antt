-- Where a collection over several gates lies: each of its keys is in one of the collections of the table, by a hash.
use Rattle.std.specs.Prelude.{◌≡◌, ◌⊎◌, ℕ, ◌+◌, ◌*◌, ◌/◌, ◌%◌, ◌<◌, ◌≤◌, List, Some, length, slice_get, ◌==◌, if◌then◌else◌}
use Rattle.std.specs.Ordering.{nat_cmp}
use Rattle.std.specs.FinMap.{FinMap, retain_keys}
use Rattle.seq_model.specs.Contents.{Contents}
use Rattle.seq_model.specs.declared.held.Held.{Held}
use Rattle.tx_handles.specs.declared.gates.Gates.{Gates}
use Rattle.tx_handles.specs.declared.gates.TheConstants.{MIX, SPREAD}

-- the first round, with its high half added to it, and the hash of a key
unfoldable pub spread_of : ℕ → ℕ → ℕ
spread_of seed key = (key + seed) % 18446744073709551616 * SPREAD % 18446744073709551616

unfoldable pub mixed_of : ℕ → ℕ → ℕ
mixed_of seed key = (spread_of seed key + spread_of seed key / 4294967296) % 18446744073709551616

unfoldable pub hash_of : ℕ → ℕ → ℕ
hash_of seed key =
    mixed_of seed key * ((mixed_of seed key + MIX) % 18446744073709551616) % 18446744073709551616 / 4294967296

-- which of the collections has the key, counted from 0
unfoldable pub place_of : Gates → ℕ → ℕ
place_of g key = if g.others == 0 then 0 else hash_of g.seed key % (g.others + 1)

-- each of these is the map u at the keys that have their place in it
abbrev pub AreParts : {X : Type 0} → Gates → FinMap nat_cmp X → List (FinMap nat_cmp X) → Type 0
AreParts g u parts =
    (length parts ≡ g.others + 1) × ((i : ℕ) → i ≤ g.others → slice_get parts i ≡ Some (retain_keys u (λ key. place_of g key == i)))

module _ {V : Type 0} where
  -- What lies over these collections is the map u: each of them holds the entries of u whose keys have their place in it.
  abbrev pub LieOver : {X : Type 0} → (FinMap nat_cmp X → Held V) → Gates → FinMap nat_cmp X → List (Held V) → Type 0
  LieOver kind g u held =
      (i : ℕ) → i ≤ g.others → slice_get held (g.first + i) ≡ Some (kind (retain_keys u (λ key. place_of g key == i)))

  -- the words and all other collections are the same
  pub record AreSameBeside (g : Gates) (s t : Contents V) : Type 0 where
    pub words : t.words ≡ s.words
    pub others : (c : ℕ) → (c < g.first) ⊎ (g.first + g.others < c) → slice_get t.held c ≡ slice_get s.held c
