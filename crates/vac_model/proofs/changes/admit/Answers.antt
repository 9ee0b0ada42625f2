use Rattle.std.proofs.Common.{inl, ◌∷◌, refl, sym, ◌∙◌, ap}
use Rattle.std.specs.Ordering.{nat_cmp}
use Rattle.std.specs.FinMap.{find, get-entries}
use Rattle.vac_model.proofs.OverlayLemmas.{admits_next, passes_next, found_in, nothing_in}
use Rattle.vac_model.proofs.changes.admit.Goals as goal

pub loop-key-init : goal.loop-key-init
loop-key-init g c =
    let is = c.into_iter-key-iterator.ensures.into_iter_gives ∙ c.iter-key-items.ensures in
    record {
      back = refl;
      elsewhere = λ k _. refl;
      rest = λ q none. ap (find nat_cmp q) is ∙ sym (get-entries c.args.changes.now q) ∙ none;
      places = λ q v some. inl (ap (find nat_cmp q) is ∙ sym (get-entries c.args.changes.now q) ∙ some);
    }

pub loop-key-preserved-in-Continue-1 : goal.loop-key-preserved-in-Continue-1
loop-key-preserved-in-Continue-1 g c =
    let l = c.loop-key.invariant in
    let e = c.in_ok-admit_one.ensures in
    let r = admits_next c.args.changes.now c.args.below.now c.loop-key.below c.admit_one.new.below _ _ _ _
    (c.in-Some.ensures.steps ∙ ap (λ o. (c.in-Some.key.now, o) ∷ c.next.new.self) c.in-Some-change.is)
    l.elsewhere l.rest l.places e.elsewhere e.stays e.ok in
    record { back = e.back ∙ l.back; elsewhere = r.0; rest = r.1; places = r.2 }

pub returns-in_err-admit_one-clause-back : goal.returns-in_err-admit_one-clause-back
returns-in_err-admit_one-clause-back g c = c.in_err-admit_one.ensures.back ∙ c.loop-key.invariant.back

pub returns-in_err-admit_one-clause-elsewhere : goal.returns-in_err-admit_one-clause-elsewhere
returns-in_err-admit_one-clause-elsewhere g c k none =
    let l = c.loop-key.invariant in
    c.in_err-admit_one.ensures.elsewhere k (nothing_in k _ _ _ (sym (ap (find nat_cmp k) c.in-Some.ensures.steps) ∙ l.rest k none))
    ∙ l.elsewhere k none

pub loop-key-preserved : goal.loop-key-preserved
loop-key-preserved g c =
    let l = c.loop-key.invariant in
    let r = passes_next c.args.changes.now c.loop-key.below _ _ _
    (c.in-Some.ensures.steps ∙ ap (λ o. (c.in-Some.key.now, o) ∷ c.next.new.self) c.in_default.is) l.rest l.places in
    record { back = l.back; elsewhere = l.elsewhere; rest = r.0; places = r.1 }

pub returns-clause-back : goal.returns-clause-back
returns-clause-back g c = c.loop-key.invariant.back

pub returns-clause-elsewhere : goal.returns-clause-elsewhere
returns-clause-elsewhere g c = c.loop-key.invariant.elsewhere

pub returns-clause-ok : goal.returns-clause-ok
returns-clause-ok g c k v some = found_in k v _ _ c.in-None.ensures.steps.0 (c.loop-key.invariant.places k v some)
