-- Lists, and sets as lists: the entry at a place, and what is left from a place on.
use Rattle.std.proofs.Common.{◌≡◌, ℕ, zero, suc, ◌+◌, ◌-◌, ◌<◌, ◌≤◌, List, [], ◌∷◌, Some, None, Option, Result, length, get_or, refl, sym}
use Rattle.std.proofs.Common.{ap, ◌∙◌, subst, arith, drop, eqb, eq-eqb, ne_eqb}
use Rattle.std.specs.Prelude.{slice_get, slice_set}
use Rattle.std.specs.List.{All}
use Rattle.std.proofs.lemmas.Option.{get_or_from_slice_get}
use Rattle.std.proofs.lemmas.Bool.{cond-true, cond-false}
use Rattle.tx_sets.specs.Entries.{Entries, locations}
use Rattle.tx_machine.specs.Actor.{to_check}
use Rattle.tx_machine.specs.Notices.{Notice, Quiet, when_none_left}
use Rattle.step_core.specs.Shown.{actor_of}
use Rattle.step_core.specs.declared.actor.Actor.{Actor}
use Rattle.step_core.specs.declared.answer.WordAnswer.{WordAnswer}
use Rattle.step_core.specs.declared.answer.WordRefusal.{WordRefusal}

abbrev pub Answer : Type 0
Answer = Result (Option WordAnswer) WordRefusal

pub inside : {X : Type 0} → (xs : List X) (i : ℕ) (x : X) → slice_get xs i ≡ Some x → i < length xs
inside [] i x h = absurd (let z : None ≡ Some x = h in cc)
inside (y ∷ ys) zero x h = omega arith
inside (y ∷ ys) (suc i) x h = omega (arith, inside ys i x h)

pub some_at : {X : Type 0} → (xs : List X) (i : ℕ) → i < length xs → (x : X) × (slice_get xs i ≡ Some x)
some_at [] i h = absurd (omega (arith, h))
some_at (y ∷ ys) zero h = (y, refl)
some_at (y ∷ ys) (suc i) h = some_at ys i (omega (arith, h))

pub All-at : {X : Type 0} → (P : X → Type 0) (xs : List X) (i : ℕ) (x : X) → All P xs → slice_get xs i ≡ Some x → P x
All-at P xs i x a h = subst P (get_or_from_slice_get xs i x x h) (a i x (inside xs i x h))

pub same_at : {X : Type 0} → (xs : List X) (a : ℕ) (x z : X) → slice_get xs a ≡ Some x → slice_get xs a ≡ Some z → x ≡ z
same_at xs a x z g h = (let q : Some x ≡ Some z = sym g ∙ h in cc)

-- the same entry, whatever stands for a missing one
pub get_or_same : {X : Type 0} → (xs : List X) (i : ℕ) (d e : X) → i < length xs → get_or xs i d ≡ get_or xs i e
get_or_same xs i d e h = (let q = some_at xs i h in get_or_from_slice_get xs i q.0 d q.1 ∙ sym (get_or_from_slice_get xs i q.0 e q.1))

pub length_set : (xs : List ℕ) (i v : ℕ) → length (slice_set xs i v) ≡ length xs
length_set [] i v = refl
length_set (z ∷ zs) zero v = refl
length_set (z ∷ zs) (suc i) v = ap suc (length_set zs i v)

pub head_tail : {X : Type 0} → (xs : List X) (d : X) → 0 < length xs → xs ≡ get_or xs 0 d ∷ drop 1 xs
head_tail [] d h = absurd (omega (arith, h))
head_tail (x ∷ xs) d h = refl

pub empty_of : {X : Type 0} → (xs : List X) → length xs ≡ 0 → xs ≡ []
empty_of [] h = refl
empty_of (x ∷ xs) h = absurd (omega (arith, h))

drop_nil : (i : ℕ) → drop {A = ℕ} i [] ≡ []
drop_nil zero = refl
drop_nil (suc i) = refl

pub drop_here : (es : Entries) (i : ℕ) (d : ℕ × ℕ) → i < length es → drop i (locations es) ≡ (get_or es i d).0 ∷ drop (i + 1) (locations es)
unfolding locations
drop_here [] i d h = absurd (omega (arith, h))
drop_here (e ∷ es) zero d h = refl
drop_here (e ∷ es) (suc i) d h = drop_here es i d (omega (arith, h)) ∙ ap (λ (n : ℕ). (get_or es i d).0 ∷ drop n (locations (e ∷ es)))
    (let z : suc (i + 1) ≡ suc i + 1 = omega arith in z)

pub drop_end : (es : Entries) (i : ℕ) → length es ≤ i → drop i (locations es) ≡ []
unfolding locations
drop_end [] i h = drop_nil i
drop_end (e ∷ es) zero h = absurd (omega (arith, h))
drop_end (e ∷ es) (suc i) h = drop_end es i (omega (arith, h))

-- what a commit has to check
pub quick : (x : Actor) (i wv : ℕ) → x.rv ≡ wv - 1 → 0 < wv → i ≡ length x.reads.entries → drop i (locations x.reads.entries)
    ≡ to_check (actor_of x) wv
quick x i wv e some n = drop_end x.reads.entries i (omega (arith, n))
    ∙ sym (cond-true (eqb (x.rv + 1) wv) [] (locations x.reads.entries) (eq-eqb (x.rv + 1) wv (omega (arith, e, some))))

pub slow : (x : Actor) (wv : ℕ) → (x.rv ≡ wv - 1 → ⊥) → locations x.reads.entries ≡ to_check (actor_of x) wv
slow x wv ne = sym (cond-false (eqb (x.rv + 1) wv) [] (locations x.reads.entries) (ne_eqb (x.rv + 1) wv (λ q. ne (omega (arith, q)))))

-- nothing is left after the last
pub none_left : (es : Entries) (i : ℕ) (n : Notice) → length es ≤ i → when_none_left (drop i (locations es)) n ≡ n
none_left es i n h = ap (λ (z : List ℕ). when_none_left z n) (drop_end es i h)

pub some_left : (es : Entries) (i : ℕ) (n : Notice) → i < length es → when_none_left (drop i (locations es)) n ≡ Quiet
some_left es i n h = ap (λ (z : List ℕ). when_none_left z n) (drop_here es i (0, 0) h)

pub one_left : (xs : Entries) (n : Notice) → length xs ≡ 1 → when_none_left (drop 1 xs) n ≡ n
one_left [] n h = absurd (omega (arith, h))
one_left (x ∷ []) n h = refl
one_left (x ∷ (y ∷ ys)) n h = absurd (omega (arith, h))

pub more_left : (xs : Entries) (n : Notice) → 0 < length xs → (length xs ≡ 1 → ⊥) → when_none_left (drop 1 xs) n ≡ Quiet
more_left [] n h ne = absurd (omega (arith, h))
more_left (x ∷ []) n h ne = absurd (ne refl)
more_left (x ∷ (y ∷ ys)) n h ne = refl
