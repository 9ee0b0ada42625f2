use Rattle.std.proofs.Common.{◌≡◌, ◌∙◌, ◌+◌, Some, None, is_err, true, false, ap, length, sym, subst, arith}
use Rattle.base_pq.specs.Room.{stripe_of}
use Rattle.base_pq.specs.ElementsView.{ElementsView}
use Rattle.base_pq.specs.declared.room.Places.{Places}
use Rattle.base_pq.proofs.RoomLemmas.{IsTaken, not_ok, ok_of, stripe_inside, taken_next, taken_none, taken_some}
use Rattle.base_pq.proofs.room.take_each.Goals.{in-Some+else-is_err, in_default}
use Rattle.base_pq.proofs.room.take_each.Goals as goal

pub returns-then-is_err-clause-served : goal.returns-then-is_err-clause-served
returns-then-is_err-clause-served g c = λ enough. (
    let n = length c.args.places.now.free.items in
    let some : stripe_of n c.change-item.result ≡ Some c.in-Some.at =
    subst (λ m. stripe_of m c.change-item.result ≡ Some c.in-Some.at) (c.len-count.ensures ∙ c.args.places.now.free.ok.0)
    (sym c.in-Some.ensures) in
    let place = taken_next n c.loop-change.change-index c.in-Some.at c.args.changes.now c.args.places.now.free.items
    c.loop-change.places.free.items c.loop-change.places.held c.change-item.result c.loop-change-test.true (sym c.change-item.is) some
    (stripe_inside n c.in-Some.at c.change-item.result c.requires.some some) enough c.loop-change.invariant.4 in
    let failed : is_err c.take_one.result ≡ true = cc (c.is_err.ensures.value, c.if-is_err.true) in
    absurd (not_ok c.take_one.result failed (c.take_one.ensures.served place)))

pub loop-change-preserved : goal.loop-change-preserved
loop-change-preserved g c =
    let n = length c.args.places.now.free.items in
    let all = c.args.changes.now in
    let start = c.args.places.now.free.items in
    let before = c.loop-change in
    let k = before.change-index in
    let now = c.match-stripe_of in
    elim c.match-stripe_of.branch [
      | in-Some+else-is_err w ↦ (
          let at = w.in-Some.at in
          let some : stripe_of n c.change-item.result ≡ Some at =
          subst (λ m. stripe_of m c.change-item.result ≡ Some at) (c.len-count.ensures ∙ c.args.places.now.free.ok.0)
          (sym w.in-Some.ensures) in
          let fine : is_err w.take_one.result ≡ false = cc (w.is_err.ensures.value, w.if-is_err.false) in
          let held = ap (λ (p : Places). p.held) w.places-is in
          let room = ap (λ (e : ElementsView). e.room) w.elements-is in (
            ap (λ j. j + 1) before.invariant.0,
            ap (λ (e : ElementsView). e.elements) w.elements-is ∙ w.take_one.ensures.elements ∙ before.invariant.1,
            ap (λ (p : Places). length p.free.items) w.places-is ∙ w.take_one.ensures.count ∙ before.invariant.2,
            omega (arith, held, room, w.take_one.ensures.room),
            subst (λ (p : Places). IsTaken n (k + 1) all start p.free.items p.held) (sym w.places-is)
                (taken_some n k at all start before.places.free.items w.take_one.new.places.free.items before.places.held
                w.take_one.new.places.held c.change-item.result c.loop-change-test.true (sym c.change-item.is) some
                (ok_of w.take_one.result fine w.take_one.ensures.fits) w.take_one.ensures.taken before.invariant.4),
          ))
      | in_default w ↦ (
          let none : stripe_of n c.change-item.result ≡ None =
          subst (λ m. stripe_of m c.change-item.result ≡ None) (c.len-count.ensures ∙ c.args.places.now.free.ok.0)
          (sym c.stripe_of.ensures ∙ w.in_default.is) in
          let held = ap (λ (p : Places). p.held) w.places-is in
          let room = ap (λ (e : ElementsView). e.room) w.elements-is in (
            ap (λ j. j + 1) before.invariant.0,
            ap (λ (e : ElementsView). e.elements) w.elements-is ∙ before.invariant.1,
            ap (λ (p : Places). length p.free.items) w.places-is ∙ before.invariant.2,
            omega (arith, held, room, before.invariant.3),
            subst (λ (p : Places). IsTaken n (k + 1) all start p.free.items p.held) (sym w.places-is)
                (taken_none n k all start before.places.free.items before.places.held c.change-item.result c.loop-change-test.true
                (sym c.change-item.is) none before.invariant.4),
          ))
    ]
