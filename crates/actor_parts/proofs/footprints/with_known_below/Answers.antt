use Rattle.std.proofs.Common.{◌≡◌, ℕ, ◌+◌, ◌-◌, [], ◌∷◌, ◌++◌, ap, append_assoc, sym, ◌∙◌}
use Rattle.std.specs.List.{range_with_len}
use Rattle.tx_sets.specs.Entries.{Entries}
use Rattle.actor_parts.proofs.RangeLemmas.{range_next}
use Rattle.actor_parts.specs.Footprints.{known_edition, with_known}
use Rattle.actor_parts.proofs.footprints.with_known_below.Goals as goal

pub loop-location-preserved : goal.loop-location-preserved
loop-location-preserved g c =
    let d = c.args.copied.now in
    let f = c.args.first in
    let i = c.loop-location.location in
    let es : Entries = c.loop-location.left.items in
    let rest : Entries = with_known d f (range_with_len (i + 1) (c.args.count - (i + 1))) in
    let next : with_known d f (range_with_len i (c.args.count - i)) ≡ (f + i, known_edition d i) ∷ rest =
    ap (with_known d f) (range_next i c.args.count c.loop-location-test.true) in
    ap (λ (xs : Entries). xs ++ rest) c.in_ok-push_back.ensures.items
    ∙ append_assoc es ((f + i, c.edition.result) ∷ []) rest
    ∙ ap (λ (v : ℕ). es ++ (f + i, v) ∷ rest) c.edition.ensures
    ∙ ap (λ (xs : Entries). es ++ xs) (sym next)
    ∙ c.loop-location.invariant
