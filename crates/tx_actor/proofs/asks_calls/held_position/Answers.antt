use Rattle.std.proofs.Common.{Option, ℕ, length, refl, sym, ap, subst, ◌∙◌}
use Rattle.std.proofs.lemmas.Option.{slice_get_read}
use Rattle.actor_parts.specs.declared.copies.CopyOfCollection.{CopyOfCollection}
use Rattle.actor_parts.specs.PrivateCopy.{holds_call}
use Rattle.actor_parts.specs.Footprints.{IsPositionOf}
use Rattle.tx_actor.proofs.CallsLemmas.{held_at_place, not_held_at}
use Rattle.tx_actor.proofs.asks_calls.held_position.Goals as goal

pub returns-then-holds : goal.returns-then-holds
returns-then-holds g c =
    let cs = c.args.copies.now in
    let i = c.in-Some.place in
    let here = c.index-copies-place.result in
    let at = subst (λ (o : Option ℕ). IsPositionOf cs c.args.collection o) c.in-Some.is c.position_of.ensures in
    held_at_place cs i c.args.collection c.args.op.now here at (slice_get_read cs (length cs) i here refl at.0 c.index-copies-place.is)
    (ap (λ (z : CopyOfCollection g.row.V.Denot). holds_call z.copied c.args.op.now) c.index-copies-place.is
    ∙ (sym c.holds.ensures ∙ c.if-holds.true))

pub returns-else-holds : goal.returns-else-holds
returns-else-holds g c =
    let cs = c.args.copies.now in
    let i = c.in-Some.place in
    let here = c.index-copies-place.result in
    let at = subst (λ (o : Option ℕ). IsPositionOf cs c.args.collection o) c.in-Some.is c.position_of.ensures in
    not_held_at cs i c.args.collection c.args.op.now here at (slice_get_read cs (length cs) i here refl at.0 c.index-copies-place.is)
    (ap (λ (z : CopyOfCollection g.row.V.Denot). holds_call z.copied c.args.op.now) c.index-copies-place.is
    ∙ (sym c.holds.ensures ∙ c.if-holds.false))
