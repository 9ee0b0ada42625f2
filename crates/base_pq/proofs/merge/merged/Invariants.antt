use Rattle.std.proofs.Common.{◌≡◌, ◌<◌, ◌≤◌, ◌++◌, ℕ, All, drop, get_or, length, take}
use Rattle.std.specs.FinMap as map
use Rattle.seq_model.specs.Entries.{IsRising}
use Rattle.base_pq.specs.Laid.{laid_by}
use Rattle.base_pq.proofs.merge.merged.Given as goal

-- what is made, and after it what is left of the list, is the list with the entries so far laid over it; what is made is below those that
-- are still to come
abbrev pub invariant-loop-element : goal.invariant-loop-element
invariant-loop-element l =
    (map.from_sorted (l.made.items ++ drop l.from l.list) ≡ laid_by l.zeros (map.from_sorted l.list) (take l.element-index l.over))
    × IsRising (l.made.items ++ drop l.from l.list) × (l.from ≤ length l.list)
    × ((j : ℕ) (d : ℕ × ℕ) → l.element-index ≤ j → j < length l.over → All (λ e. e.0 < (get_or l.over j d).0) l.made.items)
