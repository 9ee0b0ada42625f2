-- The writes of a call are made one after another: each takes the room of one entry at most, and what is left still fits.
use Rattle.std.proofs.Common.{◌≡◌, ◌<◌, ◌≤◌, ◌+◌, ℕ, suc, true, ◌||◌, not, cond, length, List, ◌∷◌, Option, Some, None, drop, get_or}
use Rattle.std.proofs.Common.{lt-ltb, refl, sym, subst, arith, ◌∙◌}
use Rattle.std.specs.Prelude.{nat_lt}
use Rattle.tx_sets.specs.Entries.{Entries, IsRising, locations, lookup, with_entry}
use Rattle.tx_sets.proofs.EntryLemmas.{length-with_entry_new, length-with_entry_there}
use Rattle.tx_machine.specs.Boosted.{is_none}
use Rattle.replay_log.specs.Worlds.{new_in}
use Rattle.replay_log.proofs.CountLemmas.{locations-cons, new_fewer}
use Rattle.std.proofs.Math.Seq.{drop-cons}
use Rattle.std.specs.Vec.{vec_capacity, vec_len}
use Rattle.step_core.specs.declared.actor.Actor.{Actor}
use Rattle.actor_parts.specs.Writes.{MayWrite, has_space}

-- the first of the writes has space
pub first_space : (es ds : Entries) (d : ℕ × ℕ) → length es + length (new_in es (locations (d ∷ ds))) ≤ 4096 → has_space es d.0 ≡ true
first_space es ds d le = by (lookup es d.0) (subst (λ (ls : List ℕ). length es + length (new_in es ls) ≤ 4096) (locations-cons d ds) le)
  where
    by : (o : Option ℕ) → length es + length (cond (is_none o) (d.0 ∷ new_in es (locations ds)) (new_in es (locations ds))) ≤ 4096
        → (not (is_none o) || nat_lt (length es) 4096) ≡ true
    by (Some v) le = refl
    by None le = lt-ltb (length es) 4096 (let z : length es + length (d.0 ∷ new_in es (locations ds)) ≤ 4096 = le in omega (arith, z))

-- and the others still fit once it is made
pub others_fit : (es ds : Entries) (d : ℕ × ℕ) → IsRising es → length es + length (new_in es (locations (d ∷ ds))) ≤ 4096
    → length (with_entry es d.0 d.1) + length (new_in (with_entry es d.0 d.1) (locations ds)) ≤ 4096
others_fit es ds d rising le =
    by (lookup es d.0) refl (subst (λ (ls : List ℕ). length es + length (new_in es ls) ≤ 4096) (locations-cons d ds) le)
  where
    by : (o : Option ℕ) → lookup es d.0 ≡ o
        → length es + length (cond (is_none o) (d.0 ∷ new_in es (locations ds)) (new_in es (locations ds))) ≤ 4096
        → length (with_entry es d.0 d.1) + length (new_in (with_entry es d.0 d.1) (locations ds)) ≤ 4096
    by None is le =
        let more = length-with_entry_new es d.0 d.1 is in
        let fewer = new_fewer es d.0 d.1 (locations ds) in
        let z : length es + length (d.0 ∷ new_in es (locations ds)) ≤ 4096 = le in
        omega (arith, more, fewer, z)
    by (Some v) is le =
        let same = length-with_entry_there es d.0 d.1 rising (λ none. let h : Some v ≡ None = sym is ∙ none in let g : ⊥ = cc in g) in
        let fewer = new_fewer es d.0 d.1 (locations ds) in
        let z : length es + length (new_in es (locations ds)) ≤ 4096 = le in
        omega (arith, same, fewer, z)

pub next_write : (ds : Entries) (i : ℕ) → i < length ds → drop i ds ≡ get_or ds i (0, 0) ∷ drop (i + 1) ds
next_write ds i lt =
    let more : suc i ≡ i + 1 = omega arith in
    drop-cons ds i (0, 0) lt ∙ (λ j. get_or ds i (0, 0) ∷ drop (more j) ds)

-- once the first is made, the others may be
pub may_go_on : (x y : Actor) (d : ℕ × ℕ) (ds : Entries) → MayWrite x (d ∷ ds) → IsRising x.writes.entries → y.place ≡ x.place
    → y.declared ≡ x.declared → y.writes.entries ≡ with_entry x.writes.entries d.0 d.1 → x.writes.room ≤ y.writes.room + 1
    → vec_len y.calls ≡ vec_len x.calls + 1 → vec_capacity y.calls ≡ vec_capacity x.calls → MayWrite y ds
may_go_on x y d ds may rising place declared entries room len capacity =
    let r : suc (length ds) ≤ x.writes.room = may.2 in
    let c : vec_len x.calls + suc (length ds) ≤ vec_capacity x.calls = may.3 in (
      place ∙ may.0,
      λ (lt : 0 < length ds). declared ∙ may.1 (omega arith),
      omega (arith, r, room),
      omega (arith, c, len, capacity),
      subst (λ (es : Entries). length es + length (new_in es (locations ds)) ≤ 4096) (sym entries)
          (others_fit x.writes.entries ds d rising may.4),
    )
