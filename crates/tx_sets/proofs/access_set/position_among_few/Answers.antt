use Rattle.std.proofs.Common.{ℕ, ap, ◌∙◌, arith}
use Rattle.std.proofs.lemmas.List.{get_or_default}
use Rattle.tx_sets.proofs.PositionLemmas.{counted_gap}
use Rattle.tx_sets.proofs.access_set.position_among_few.Goals as goal
use Rattle.tx_sets.proofs.access_set.position_among_few.Goals.{else-at-entries-via-then-at-entries+else-entries-at}
use Rattle.tx_sets.proofs.access_set.position_among_few.Goals.{else-at-entries-via-else-at-entries}

pub returns : goal.returns
returns c =
    let es = c.args.entries.now in
    let n = c.count_below-at.result in
    counted_gap c.args.location es n c.requires c.count_below-at.ensures
    (elim c.else-at-entries.branch [
      | else-at-entries-via-then-at-entries+else-entries-at w ↦ λ d inside same. w.if-entries-at.false
          (ap (λ (e : ℕ × ℕ). e.0) (get_or_default es n _ d inside) ∙ same)
      | else-at-entries-via-else-at-entries w ↦ λ d inside same. omega (arith, inside, w.if-at-entries.false)
    ])
