-- How many keys of a finite map are on each stripe.
use Rattle.std.specs.Prelude.{ℕ, List, map, ◌==◌}
use Rattle.std.specs.Ordering.{nat_cmp}
use Rattle.std.specs.FinMap.{FinMap, len, retain_keys}
use Rattle.conflict.specs.Footprints.{all_below, key_location}

-- on stripe l of n
abbrev pub keys_on : {A : Type 0} → ℕ → FinMap nat_cmp A → ℕ → ℕ
keys_on n m l = len (retain_keys m (λ k. key_location n k == l))

abbrev pub stripe_counts : {A : Type 0} → ℕ → FinMap nat_cmp A → List ℕ
stripe_counts n m = map (keys_on n m) (all_below n)
