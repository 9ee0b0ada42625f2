use Rattle.std.proofs.Common.{ℕ, ◌<◌, ◌-◌, length, ap, arith, get_or}
use Rattle.std.proofs.lemmas.List.{get_or_default}
use Rattle.tx_sets.proofs.PositionLemmas.{between}
use Rattle.tx_sets.proofs.access_set.goes_to.Goals as goal
use Rattle.tx_sets.proofs.access_set.goes_to.Goals.{else-at-gt0-via-then-at-gt0+else-entries-at}
use Rattle.tx_sets.proofs.access_set.goes_to.Goals.{else-at-gt0-via-else-at-gt0}
use Rattle.tx_sets.proofs.access_set.goes_to.Goals.{else-at-entries-2-via-then-at-entries-2+else-location-entries}
use Rattle.tx_sets.proofs.access_set.goes_to.Goals.{else-at-entries-2-via-else-at-entries-2}

pub returns : goal.returns
returns c = λ is.
    let es = c.args.entries.now in
    let n = c.args.at in
    let l = c.args.location in
    let below : 0 < n → (d : ℕ × ℕ) → (get_or es (n - 1) d).0 < l =
    elim c.else-at-gt0.branch [
      | else-at-gt0-via-then-at-gt0+else-entries-at w ↦ λ some d.
          let at = ap (λ (e : ℕ × ℕ). e.0) (get_or_default es (n - 1) d (0, 0) (omega (arith, some, c.if-at-entries.false))) in
          omega (arith, w.if-entries-at.false, at)
      | else-at-gt0-via-else-at-gt0 w ↦ λ some d. absurd (omega (arith, some, w.if-at-gt0.false))
    ] in
    let above : n < length es → (d : ℕ × ℕ) → l < (get_or es n d).0 =
    elim c.else-at-entries-2.branch [
      | else-at-entries-2-via-then-at-entries-2+else-location-entries w ↦ λ some d.
          let at = ap (λ (e : ℕ × ℕ). e.0) (get_or_default es n d (0, 0) some) in omega (arith, w.if-location-entries.false, at)
      | else-at-entries-2-via-else-at-entries-2 w ↦ λ some d. absurd (omega (arith, some, w.if-at-entries-2.false))
    ] in
    between l es n c.requires (omega (arith, c.if-at-entries.false)) below above
