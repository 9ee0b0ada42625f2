use Rattle.std.proofs.Common.{◌≡◌, length, Some, None, refl, subst, arith}
use Rattle.std.proofs.lemmas.Option.{slice_get_read}
use Rattle.actor_parts.specs.Footprints.{IsPositionOf}
use Rattle.actor_parts.specs.Taking.{IsTakenAt}
use Rattle.actor_parts.proofs.CopyListLemmas.{same_pieces}
use Rattle.actor_parts.proofs.TakeBackLemmas.{learnt_at, pushed_at, some_kept}
use Rattle.actor_parts.proofs.taking.take.Goals as goal

pub returns-in-Err-clause-err : goal.returns-in-Err-clause-err
returns-in-Err-clause-err g c =
    let cs = c.args.copies.now.items in
    let here = c.index_mut.result.now in
    let place = subst (λ ds. IsPositionOf ds c.args.collection (Some c.in-Some.place)) c.deref.ensures.value c.in-Some.ensures in
    let at = slice_get_read cs (length cs) c.in-Some.place here refl place.0 c.index_mut.ensures.value in
    same_pieces cs c.in-Some.place here (record { collection = here.collection; copied = c.add.new.copied }) at refl
    (λ q. some_kept here.copied c.add.new.copied q c.in-Err.ensures.err)

pub returns-in-Ok-clause-ok : goal.returns-in-Ok-clause-ok
returns-in-Ok-clause-ok g c =
    let cs = c.args.copies.now.items in
    let here = c.index_mut.result.now in
    let place = subst (λ ds. IsPositionOf ds c.args.collection (Some c.in-Some.place)) c.deref.ensures.value c.in-Some.ensures in
    let at = slice_get_read cs (length cs) c.in-Some.place here refl place.0 c.index_mut.ensures.value in
    learnt_at c.args.stripes c.args.collection c.in-Some.place c.args.found cs here c.add.new.copied place at
    c.in-Ok.ensures.ok

pub returns-in_ok-push_first-in-None-clause-ok : goal.returns-in_ok-push_first-in-None-clause-ok
returns-in_ok-push_first-in-None-clause-ok g c =
    let none = subst (λ ds. IsPositionOf ds c.args.collection None) c.deref.ensures.value c.in-None.ensures in
    let same : length c.args.copies.now.items ≡ c.len-place.result = omega (arith, c.len-place.ensures, c.args.copies.now.ok.0) in
    subst (λ i. IsTakenAt c.args.stripes c.args.collection c.args.found i c.args.copies.now.items c.push_first.new.copies.items)
    same
    (pushed_at c.args.stripes c.args.collection c.args.found c.args.copies.now.items c.push_first.new.copies.items none
    c.in_ok-push_first-in-None.ensures.ok)
