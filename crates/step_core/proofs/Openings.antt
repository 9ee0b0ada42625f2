-- The words as they open.
use Rattle.std.proofs.Common.{Result, Ok, Err, IfOk, Vec, Global, ◌≡◌, ℕ, zero, suc, ◌+◌, ◌≤◌, ◌^◌, List, [], ◌∷◌, ◌++◌, length, map}
use Rattle.std.proofs.Common.{get_or, refl, sym, ap, ◌∙◌, subst, arith}
use Rattle.std.specs.Vec.{vec_len}
use Rattle.std.specs.List.{All}
use Rattle.std.specs.Prelude.{replicate}
use Rattle.tx_machine.specs.World.{start}
use Rattle.vlock_word.specs.LockWord.{unbits}
use Rattle.tx_machine.specs.World.{in_order}
use Rattle.tx_machine.specs.World.{blank}
use Rattle.step_core.specs.Shown.{actor_of, record_of, shown, Shows, Reached}
use Rattle.step_core.specs.Sound.{Fits, owed, due, total, Sound}
use Rattle.step_core.specs.Blank.{IsBlank, AreBlank, AreZero}
use Rattle.step_core.specs.declared.actor.Place.{Place}
use Rattle.step_core.specs.declared.actor.Place.TheVariants.{Idle}
use Rattle.step_core.specs.declared.record.WordRecord.{WordRecord}
use Rattle.step_core.specs.declared.actor.Actor.{Actor}
use Rattle.step_core.specs.declared.machine.Machine.{Machine}
use Rattle.step_core.specs.declared.machine.TheConstants.{SEATS}
use Rattle.vlock_word.proofs.LockWordLemmas.{unbits_free}

pub AreBlank-push : (xs : List Actor) (x : Actor) → AreBlank xs → IsBlank x → AreBlank (xs ++ x ∷ [])
AreBlank-push [] x a b = (b, tt)
AreBlank-push (y ∷ ys) x a b = (a.0, AreBlank-push ys x a.1 b)

pub zeros_are : (n : ℕ) → AreZero (replicate n 0)
zeros_are zero = tt
zeros_are (suc n) = (refl, zeros_are n)

-- what a vector of zeros holds, where a number's clone is the number
pub all_zero : {E : Type 0} → (n : ℕ) (r : Result (Vec ℕ Global) E) → IfOk r (λ v. ((y : ℕ) → y ≡ 0 → y ≡ 0) → v.items ≡ replicate n 0)
    → IfOk r (λ v. AreZero v.items)
all_zero n (Ok v) h = subst AreZero (sym (h (λ y e. e))) (zeros_are n)
all_zero n (Err e) h = h

zero_at : (xs : List ℕ) (l : ℕ) → AreZero xs → get_or xs l 0 ≡ 0
zero_at [] zero a = refl
zero_at [] (suc l) a = refl
zero_at (x ∷ xs) zero a = a.0
zero_at (x ∷ xs) (suc l) a = zero_at xs l a.1

blank_at : (xs : List Actor) (a : ℕ) → AreBlank xs → get_or (map actor_of xs) a blank ≡ blank
blank_at [] zero b = refl
blank_at [] (suc a) b = refl
blank_at (x ∷ xs) zero b = b.0.actor
blank_at (x ∷ xs) (suc a) b = blank_at xs a b.1

none : (f : Place → ℕ) → f Idle ≡ 0 → (xs : List Actor) → AreBlank xs → total f xs ≡ 0
none f z [] b = refl
none f z (x ∷ xs) b = (let q = ap f b.0.place in let r = none f z xs b.1 in omega (arith, q, z, r))

all_fit : (n : ℕ) (xs : List Actor) → AreBlank xs → All (Fits n) xs
all_fit n [] b k d h = absurd (omega (arith, h))
all_fit n (x ∷ xs) b zero d h = b.0.fits n
all_fit n (x ∷ xs) b (suc k) d h = all_fit n xs b.1 k d (omega (arith, h))

pub shows_opening : (w : Machine) → AreZero w.cells.locks.items → AreBlank w.actors.items → w.history.items ≡ []
    → Shows (shown w) (start w.cells.clock (λ l. get_or w.cells.values.items l 0))
shows_opening w z b h = record {
  clock = refl;
  locks = λ l. sym (ap unbits (zero_at w.cells.locks.items l z) ∙ unbits_free 0);
  values = λ l. refl;
  actors = λ a. sym (blank_at w.actors.items a b);
  history = sym (ap (λ (z : List WordRecord). in_order [] (map record_of z)) h);
}

pub reached_opening : (w : Machine) → AreZero w.cells.locks.items → AreBlank w.actors.items → w.history.items ≡ [] → Reached (shown w)
reached_opening w z b h = record {
  clock = w.cells.clock;
  opening = λ l. get_or w.cells.values.items l 0;
  events = [];
  shows =
      shows_opening w z b h;
}

pub sound_opening : (w : Machine) → length w.cells.values.items ≡ length w.cells.locks.items → length w.actors.items ≡ SEATS
    → AreBlank w.actors.items
    → w.cells.clock ≤ 2 ^ 62 → vec_len w.history ≡ 0 → Sound w
sound_opening w same seats b low h = record {
  same = same;
  seats = seats;
  actors = all_fit (length w.cells.locks.items) w.actors.items b;
  clock = (let q = none owed refl w.actors.items b in omega (arith, q, low));
  room = (let q = none due refl w.actors.items b in omega (arith, q, h));
}

pub length_push : {X : Type 0} → (xs : List X) (x : X) → length (xs ++ x ∷ []) ≡ length xs + 1
length_push [] x = refl
length_push (y ∷ ys) x = (let q = length_push ys x in omega (arith, q))
