-- Numbers of copies that are laid over a multiset.
use Rattle.std.specs.Prelude.{ℕ, ◌+◌, Bool, List, [], ◌∷◌, Option, Some, None, fold, nat_lt, ◌==◌, if◌then◌else◌}
use Rattle.std.specs.FinMap.{entries, insert}
use Rattle.std.specs.Arc.{arc_value}
use Rattle.std.proofs.Common.{Vec}
use Rattle.std.specs.declared.sync.Arc.{Arc}
use Rattle.seq_model.specs.Entries.{rank, has_key, inserts}
use Rattle.seq_model.specs.Counts.{Multiset, with_copies}

-- the entries of a list that is shared, if there is one
abbrev pub listed : {Z W : Type 0} → Option (Arc (Vec (ℕ × ℕ) Z) W) → List (ℕ × ℕ)
listed None = []
listed (Some list) = (arc_value list).items

-- the multiset, with as many copies of these elements as the entries say
abbrev pub laid : Multiset → List (ℕ × ℕ) → Multiset
laid m es = fold (λ n e. with_copies n e.0 e.1) m es

-- the numbers of the one, and those of the other where it has them
abbrev pub layered : Multiset → Multiset → Multiset
layered m n = inserts m (entries n)

-- the multiset with n copies of x, where 0 copies may be a number that is kept
abbrev pub with_number : Bool → Multiset → ℕ → ℕ → Multiset
with_number zeros m x n = if zeros then insert m x n else with_copies m x n

-- the same of each of the entries
abbrev pub laid_by : Bool → Multiset → List (ℕ × ℕ) → Multiset
laid_by zeros m es = fold (λ n e. with_number zeros n e.0 e.1) m es

-- the first of the keys of which something is kept
abbrev pub first_kept : (ℕ → ℕ) → List (ℕ × ℕ) → Option ℕ
first_kept f [] = None
first_kept f (e ∷ es) = if f e.0 == 0 then first_kept f es else Some e.0

-- how many entries stand up to the place of the key, with the one that has it
abbrev pub through : {V : Type 0} → ℕ → List (ℕ × V) → ℕ
through k es = rank k es + (if has_key k es then 1 else 0)

-- the lesser of two, where there are two
abbrev pub lesser : Option ℕ → Option ℕ → Option ℕ
lesser None b = b
lesser (Some x) None = Some x
lesser (Some x) (Some y) = if nat_lt y x then Some y else Some x
