use Rattle.std.proofs.Common.{ℕ, ◌≡◌, ◌-◌, ◌<◌, ◌≤◌, get_or, length}
use Rattle.tx_sets.specs.AccessSet.{chain_of}
use Rattle.tx_sets.proofs.access_set.is_linked.Given as goal

abbrev pub invariant-loop-next : goal.invariant-loop-next
invariant-loop-next l =
    (l.next ≤ length l.links) × ((k : ℕ) (d : ℕ × ℕ) → k < length l.links → (get_or l.links k d).0 ≡ l.location → k < l.next)
    × ((d : ℕ × ℕ) → 0 < l.next → chain_of (get_or l.links (l.next - 1) d).0 ≡ chain_of l.location)

abbrev pub decreases-loop-next : goal.decreases-loop-next
decreases-loop-next l = l.next
