use Rattle.std.proofs.Common.{◌∷◌, Some, None, sym, ◌∙◌, ap, subst}
use Rattle.std.specs.Ordering.{nat_cmp}
use Rattle.std.specs.FinMap.{find, entries_sorted, get-entries}
use Rattle.seq_model.specs.Entries.{IsRising}
use Rattle.vac_model.specs.Overlays.{laid_by}
use Rattle.vac_model.proofs.OverlayLemmas.{settles_next, found_first}
use Rattle.vac_model.proofs.changes.settle.Goals as goal

pub loop-key-init : goal.loop-key-init
loop-key-init g c =
    let is = c.into_iter-key-iterator.ensures.into_iter_gives ∙ c.into_iter-key-items.ensures in
    record {
      rising = subst IsRising (sym is) (entries_sorted c.args.changes);
      places = λ q v some. c.requires q v (get-entries c.args.changes q ∙ sym (ap (find nat_cmp q) is) ∙ some);
      rest = ap (laid_by c.args.below.now) is;
    }

pub replace-requires : goal.replace-requires
replace-requires g c =
    c.loop-key.invariant.places c.in-Some.key c.in-Some-change.value
    (ap (find nat_cmp c.in-Some.key) (c.in-Some.ensures.steps ∙ ap (λ o. (c.in-Some.key, o) ∷ c.next.new.self) c.in-Some-change.is)
    ∙ found_first c.in-Some.key (Some c.in-Some-change.value) c.next.new.self)

pub loop-key-preserved-in-Some-change : goal.loop-key-preserved-in-Some-change
loop-key-preserved-in-Some-change g c =
    let l = c.loop-key.invariant in
    let r = settles_next c.loop-key.below c.replace.new.below _ (Some c.in-Some-change.value) _ _ _
    (c.in-Some.ensures.steps ∙ ap
    (λ o. (c.in-Some.key, o) ∷ c.next.new.self) c.in-Some-change.is) l.rising l.places l.rest c.replace.ensures in
    record { rising = r.0; places = r.1; rest = r.2 }

pub loop-key-preserved-in-None-change : goal.loop-key-preserved-in-None-change
loop-key-preserved-in-None-change g c =
    let l = c.loop-key.invariant in
    let r = settles_next c.loop-key.below c.remove.new.self _ None _ _ _
    (c.in-Some.ensures.steps ∙ ap
    (λ o. (c.in-Some.key, o) ∷ c.next.new.self) c.in-None-change.is) l.rising l.places l.rest c.remove.ensures.new in
    record { rising = r.0; places = r.1; rest = r.2 }

pub loop-key-preserved : goal.loop-key-preserved
loop-key-preserved g c =
    let l = c.loop-key.invariant in
    let r = settles_next c.loop-key.below c.remove.new.self _ None _ _ _
    (c.in-Some.ensures.steps ∙ ap
    (λ o. (c.in-Some.key, o) ∷ c.next.new.self) c.in-None-change.is) l.rising l.places l.rest c.remove.ensures.new in
    record { rising = r.0; places = r.1; rest = r.2 }

pub returns : goal.returns
returns g c = sym (ap (laid_by c.loop-key.below) c.in-None.ensures.steps.0) ∙ c.loop-key.invariant.rest
