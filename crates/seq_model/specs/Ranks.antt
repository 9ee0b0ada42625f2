-- The ranks of records in a run: what an audit sorts by.
use Rattle.std.specs.Prelude.{◌≡◌, ℕ, ◌+◌, ◌==◌, Bool, false, not, ◌&&◌, List, [], ◌∷◌, ⊤, if◌then◌else◌}
use Rattle.std.specs.Ordering.{nat_cmp, bool_cmp, ordering_then, is_lt}
use Rattle.seq_model.specs.declared.record.Record.{Record}

-- a record's number, whether it only reads, and its place in what was handed in
abbrev pub Rank : Type 0
Rank = ℕ × Bool × ℕ

abbrev pub rank_of : {V : Type 0} → ℕ × Record V → Rank
rank_of e = (e.1.number, not e.1.writes, e.0)

-- the ranks of records whose places begin with this one
abbrev pub ranks_from : {V : Type 0} → ℕ → List (Record V) → List Rank
ranks_from place [] = []
ranks_from {V} place (r ∷ rs) = rank_of {V = V} (place, r) ∷ ranks_from (place + 1) rs

-- by number, then writers before readers, then by place
abbrev pub is_before : Rank → Rank → Bool
is_before t u = is_lt (ordering_then (ordering_then (nat_cmp t.0 u.0) (bool_cmp t.1 u.1)) (nat_cmp t.2 u.2))

abbrev pub put_rank : Rank → List Rank → List Rank
put_rank t [] = t ∷ []
put_rank t (u ∷ us) = if is_before t u then t ∷ u ∷ us else u ∷ put_rank t us

abbrev pub sort_ranks : List Rank → List Rank
sort_ranks [] = []
sort_ranks (t ∷ ts) = put_rank t (sort_ranks ts)

-- none of these ranks is before t
abbrev pub NoneIsBefore : Rank → List Rank → Type 0
NoneIsBefore t [] = ⊤
NoneIsBefore t (u ∷ us) = (is_before u t ≡ false) × NoneIsBefore t us

abbrev pub AreRanked : List Rank → Type 0
AreRanked [] = ⊤
AreRanked (t ∷ ts) = NoneIsBefore t ts × AreRanked ts

-- whether it is a writer's with this number
abbrev pub writes_at : ℕ → Rank → Bool
writes_at n t = not t.1 && (t.0 == n)
