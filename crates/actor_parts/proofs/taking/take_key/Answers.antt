use Rattle.std.proofs.Common.{◌≡◌, ℕ, List, Option, Result, Ok, Err, OnErr, length, Some, None, refl, subst, arith}
use Rattle.std.proofs.lemmas.Option.{slice_get_read}
use Rattle.std.specs.FinMap.{FinMap, get}
use Rattle.std.specs.Ordering.{nat_cmp}
use Rattle.conflict.specs.Footprints.{key_location}
use Rattle.std.proofs.Math.ListN.{set}
use Rattle.std.specs.Prelude.{slice_index}
use Rattle.actor_parts.specs.declared.copies.CopyOfCollection.{CopyOfCollection}
use Rattle.actor_parts.specs.declared.copies.BaseExcerpt.TheVariants.{Keys}
use Rattle.actor_parts.specs.Footprints.{IsPositionOf}
use Rattle.actor_parts.specs.Taking.{IsTakenAt, copy_with, key_touch}
use Rattle.actor_parts.proofs.CopyListLemmas.{same_pieces}
use Rattle.actor_parts.proofs.TakeBackLemmas.{learnt_at, pushed_at, some_kept}
use Rattle.actor_parts.proofs.taking.take_key.Goals as goal

on_err : {T E P : Type 0} (r : Result T E) → P → OnErr r P
on_err (Ok x) p = tt
on_err (Err e) p = p

-- what was touched is by the map what it was found to be
as_touched : {V : Type 0} (n k key stripes : ℕ) (shown : FinMap nat_cmp V) (editions : List ℕ) (l e : ℕ) (v : Option V) (i : ℕ)
    (before now : List (CopyOfCollection V)) → l ≡ key_location stripes key → e ≡ slice_index editions l → v ≡ get shown key
    → IsTakenAt n k (Keys (key_touch key v l e)) i before now
    → IsTakenAt n k (Keys (key_touch key (get shown key) (key_location stripes key) (slice_index editions (key_location stripes key)))) i
    before
    now
as_touched n k key stripes shown editions l e v i before now at edition value taken =
    let p = key_location stripes key in
    subst (λ u. IsTakenAt n k (Keys (key_touch key u p (slice_index editions p))) i before now) value
    (subst (λ j. IsTakenAt n k (Keys (key_touch key v j (slice_index editions j))) i before now) at
    (subst (λ j. IsTakenAt n k (Keys (key_touch key v l j)) i before now) edition taken))

pub returns-in_err-learn_key-in-Some-clause-err : goal.returns-in_err-learn_key-in-Some-clause-err
returns-in_err-learn_key-in-Some-clause-err g c =
    let cs = c.args.copies.now.items in
    let here = c.index_mut.result.now in
    let place = subst (λ ds. IsPositionOf ds c.args.collection (Some c.in-Some.place)) c.deref.ensures.value c.in-Some.ensures in
    let at = slice_get_read cs (length cs) c.in-Some.place here refl place.0 c.index_mut.ensures.value in
    on_err c.from_residual-in_err-learn_key-in-Some.result
    (same_pieces cs c.in-Some.place here (record { collection = here.collection; copied = c.learn_key.new.self }) at refl
    (λ q. some_kept here.copied c.learn_key.new.self q c.in_err-learn_key-in-Some.ensures.err))

pub returns-in_ok-learn_key-in-Some-clause-ok : goal.returns-in_ok-learn_key-in-Some-clause-ok
returns-in_ok-learn_key-in-Some-clause-ok g c =
    let cs = c.args.copies.now.items in
    let n = c.args.stripes in
    let k = c.args.collection in
    let map = c.args.map.now in
    let here = c.index_mut.result.now in
    let place = subst (λ ds. IsPositionOf ds k (Some c.in-Some.place)) c.deref.ensures.value c.in-Some.ensures in
    let at = slice_get_read cs (length cs) c.in-Some.place here refl place.0 c.index_mut.ensures.value in
    let l = c.location_of-location.result in
    let e = c.edition-edition.result in
    let v = c.in_ok-value.value in
    let now = set cs c.in-Some.place (copy_with here.collection c.learn_key.new.self) in
    as_touched n k c.args.key map.stripes map.shown map.editions l e v c.in-Some.place cs now c.location_of-location.ensures.location
    c.edition-edition.ensures c.in_ok-value.ensures
    (learnt_at n k c.in-Some.place (Keys (key_touch c.args.key v l e)) cs here c.learn_key.new.self place at
    (λ i. c.in_ok-learn_key-in-Some.ensures.learnt))

pub returns-in_ok-push_key-in-None-clause-ok : goal.returns-in_ok-push_key-in-None-clause-ok
returns-in_ok-push_key-in-None-clause-ok g c =
    let cs = c.args.copies.now.items in
    let n = c.args.stripes in
    let k = c.args.collection in
    let map = c.args.map.now in
    let none = subst (λ ds. IsPositionOf ds k None) c.deref.ensures.value c.in-None.ensures in
    let same : length cs ≡ c.len-place.result = omega (arith, c.len-place.ensures, c.args.copies.now.ok.0) in
    let l = c.location_of-location.result in
    let e = c.edition-edition.result in
    let v = c.in_ok-value.value in
    let now = c.push_key.new.copies.items in
    as_touched n k c.args.key map.stripes map.shown map.editions l e v c.len-place.result cs now c.location_of-location.ensures.location
    c.edition-edition.ensures c.in_ok-value.ensures
    (subst (λ i. IsTakenAt n k (Keys (key_touch c.args.key v l e)) i cs now) same
    (pushed_at n k (Keys (key_touch c.args.key v l e)) cs now none c.in_ok-push_key-in-None.ensures.ok))
