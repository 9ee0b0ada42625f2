use Rattle.std.proofs.Common.{◌≡◌, ℕ, ◌+◌, ◌-◌, ◌∷◌, List, ap, arith, length}
use Rattle.std.specs.List.{range_with_len}
use Rattle.replay_log.specs.Contents.{shifted}
use Rattle.replay_log.specs.Worlds.{new_in}
use Rattle.actor_parts.proofs.RangeLemmas.{range_next}
use Rattle.actor_parts.proofs.calls.count_below.Goals as goal
use Rattle.actor_parts.proofs.calls.count_below.Goals.{then-is_none, else-is_none}

pub loop-location-preserved : goal.loop-location-preserved
loop-location-preserved g c =
    let es = c.args.set.now.entries in
    let next : length (new_in es (shifted c.args.first (range_with_len c.loop-location.location (c.args.count - c.loop-location.location))))
    ≡ length (new_in es (shifted c.args.first
    (c.loop-location.location ∷ range_with_len (c.loop-location.location + 1) (c.args.count - (c.loop-location.location + 1))))) =
    ap (λ (ls : List ℕ). length (new_in es (shifted c.args.first ls)))
    (range_next c.loop-location.location c.args.count c.loop-location-test.true) in
    elim c.if-is_none.branch [ then-is_none w ↦ grind (arith, next, w.new-is) | else-is_none w ↦ grind (arith, next, w.new-is) ]
