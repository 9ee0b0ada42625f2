-- A finite map with room for more entries.
use Rattle.std.specs.Prelude.{ℕ, refl}
use Rattle.std.specs.Coded.{Coded, code_by, coded_ℕ, coded×}
use Rattle.std.specs.Ordering.{nat_cmp}
use Rattle.std.specs.FinMap as map
use Rattle.indexmap.specs.IndexMap as index

-- what the map holds, and how many more entries fit with no memory taken
pub record Room (V : Type 0) : Type 0 where
  pub contents : map.FinMap nat_cmp V
  pub room : ℕ

abbrev pub room_of : {V S : Type 0} → index.IndexMap ℕ V S → Room V
room_of m = record { contents = map.from_entries m.entries; room = index.spare m }

abbrev pub room_code : {V : Type 0} → Coded V → Coded (Room V)
room_code {V} v = code_by (map.FinMap nat_cmp V × ℕ) (coded× (map.code coded_ℕ v) coded_ℕ) (λ r. (r.contents, r.room))
    (λ p. record { contents = p.0; room = p.1 }) (λ _. refl)
