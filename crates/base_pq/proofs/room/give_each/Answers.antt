use Rattle.std.proofs.Common.{◌≡◌, ◌<◌, ◌∙◌, ◌+◌, ℕ, List, Some, None, ap, length, set, get_or, sym, subst}
use Rattle.std.proofs.lemmas.List.{get_or_default, length-set}
use Rattle.base_pq.specs.Room.{stripe_of}
use Rattle.base_pq.specs.declared.room.Places.{Places}
use Rattle.base_pq.proofs.RoomLemmas.{IsGiven, given_none, given_some, stripe_inside}
use Rattle.base_pq.proofs.room.give_each.Goals.{in-Some, in_default}
use Rattle.base_pq.proofs.room.give_each.Goals as goal

pub loop-change-preserved : goal.loop-change-preserved
loop-change-preserved g c =
    let n = length c.args.places.now.free.items in
    let all = c.args.changes.now in
    let start = c.args.places.now.free.items in
    let before = c.loop-change in
    let free = before.places.free.items in
    let k = before.change-index in
    elim c.match-stripe_of.branch [
      | in-Some w ↦ (
          let at = w.in-Some.at in
          let some : stripe_of n c.change-item.result ≡ Some at =
          subst (λ m. stripe_of m c.change-item.result ≡ Some at) (c.len-count.ensures ∙ c.args.places.now.free.ok.0)
          (sym w.in-Some.ensures) in
          let inside : at < length free =
          subst (λ m. at < m) (sym before.invariant.0) (stripe_inside n at c.change-item.result c.requires.some some) in
          let value = w.index_mut.ensures.value ∙ get_or_default free at _ 0 inside in
          let held = ap (λ (p : Places). p.held) w.places-is in
          let now : c.match-stripe_of.places.free.items ≡ set free at (get_or free at 0 + 1) =
          ap (λ (p : Places). p.free.items) w.places-is ∙ ap (λ v. set free at (v + 1)) value in (
            ap length now ∙ length-set free at _ ∙ before.invariant.0,
            held ∙ before.invariant.1,
            subst (λ (xs : List ℕ). IsGiven n (k + 1) all start xs c.match-stripe_of.places.held) (sym now)
                (subst (λ h. IsGiven n (k + 1) all start (set free at (get_or free at 0 + 1)) h) (sym held)
                (given_some n k at all start free before.places.held c.change-item.result c.loop-change-test.true (sym c.change-item.is)
                some inside before.invariant.2)),
          ))
      | in_default w ↦ (
          let none : stripe_of n c.change-item.result ≡ None =
          subst (λ m. stripe_of m c.change-item.result ≡ None) (c.len-count.ensures ∙ c.args.places.now.free.ok.0)
          (sym c.stripe_of.ensures ∙ w.in_default.is) in (
            ap (λ (p : Places). length p.free.items) w.places-is ∙ before.invariant.0,
            ap (λ (p : Places). p.held) w.places-is ∙ before.invariant.1,
            subst (λ (p : Places). IsGiven n (k + 1) all start p.free.items p.held) (sym w.places-is)
                (given_none n k all start free before.places.held c.change-item.result c.loop-change-test.true (sym c.change-item.is) none
                before.invariant.2),
          ))
    ]
