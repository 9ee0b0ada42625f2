use Rattle.std.proofs.Common.{◌∷◌, [], ◌++◌, length, get_or, sym, ap, subst, ◌∙◌, append_assoc, arith, ◌<◌, ◌≤◌, ℕ}
use Rattle.std.specs.Vec.Iter.{into_iter_items}
use Rattle.conflict.specs.Refusals.{IsStripeCountOf}
use Rattle.actor_parts.specs.Openings.{AreOpened, AreStripeCounts, IsOpened}
use Rattle.actor_parts.proofs.OpeningLemmas.{count_of_next, next_items, opened_long, opened_more, next_place}
use Rattle.actor_parts.proofs.opening.open_bases.Goals as goal

pub bounds-stripes-len : goal.bounds-stripes-len
bounds-stripes-len g c =
    let at = c.loop-collection in
    let low = next_place c.args.stripes.now c.args.held.items at.yielded
    (into_iter_items c.next.new.self) c.in-Some.collection at.bases.items
    c.requires.same at.invariant.1
    (next_items at.yielded _ _ c.args.held.items c.in-Some.collection c.in-Some.ensures.steps.0 at.invariant.0) in
    omega (arith, low, c.len.ensures)

pub offset_bounds-stripes-len : goal.offset_bounds-stripes-len
offset_bounds-stripes-len g c =
    let at = c.loop-collection in
    let low = next_place c.args.stripes.now c.args.held.items at.yielded
    (into_iter_items c.next.new.self) c.in-Some.collection at.bases.items
    c.requires.same at.invariant.1
    (next_items at.yielded _ _ c.args.held.items c.in-Some.collection c.in-Some.ensures.steps.0 at.invariant.0) in
    let few : length c.args.stripes.now ≤ 256 = c.requires.few in
    let small : c.len.result < 256 = omega (arith, low, few, c.len.ensures) in
    omega (arith, small)

pub open_base-requires-clause-count : goal.open_base-requires-clause-count
open_base-requires-clause-count g c =
    let at = c.loop-collection in
    let ns = c.args.stripes.now in
    let rest = into_iter_items c.next.new.self in
    let was = next_items at.yielded _ rest c.args.held.items c.in-Some.collection c.in-Some.ensures.steps.0 at.invariant.0 in
    let low = next_place ns c.args.held.items at.yielded rest c.in-Some.collection at.bases.items c.requires.same at.invariant.1 was in
    let long = opened_long ns at.yielded at.bases.items at.invariant.1 in
    let here : length at.yielded < length ns = omega (arith, low, long) in
    subst (λ (i : ℕ). IsStripeCountOf c.in-Some.collection (get_or ns i 0)) (sym long ∙ sym at.bases.ok.0 ∙ sym c.len.ensures)
    (count_of_next ns at.yielded rest c.in-Some.collection (subst (AreStripeCounts ns) (sym was) c.requires.counts) here)

pub loop-collection-preserved : goal.loop-collection-preserved
loop-collection-preserved g c =
    let at = c.loop-collection in
    let was = next_items at.yielded _
    (into_iter_items c.next.new.self) c.args.held.items c.in-Some.collection c.in-Some.ensures.steps.0 at.invariant.0 in
    let low = next_place c.args.stripes.now c.args.held.items at.yielded
    (into_iter_items c.next.new.self) c.in-Some.collection at.bases.items
    c.requires.same at.invariant.1 was in
    let opened = subst (λ (i : ℕ). IsOpened (get_or c.args.stripes.now i 0) c.in-Some.collection c.in_ok-base.base)
    (c.len.ensures ∙ at.bases.ok.0)
    (record { shown = c.in_ok-base.ensures.shown; stripes = c.in_ok-base.ensures.stripes; editions = c.in_ok-base.ensures.editions }) in
    let more = opened_more c.args.stripes.now at.yielded c.in-Some.collection at.bases.items c.in_ok-base.base at.invariant.1 low
    opened in (
      append_assoc at.yielded (c.in-Some.collection ∷ []) _ ∙ was,
      subst (AreOpened c.args.stripes.now (at.yielded ++ c.in-Some.collection ∷ [])) (sym c.in_ok-push.ensures.items) more,
      (let last = at.invariant.2 in let gone = c.in-Some.ensures.steps.1 in let short = ap length c.in-Some.ensures.steps.0 in omega arith),
    )
