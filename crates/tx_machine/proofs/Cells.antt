-- An atomic step changes no word but the one that it touches, and that one becomes what the step says.
use Rattle.std.proofs.Common.{None, ◌+◌, ◌*◌, inl, inr, sym, subst, arith, eq-eqb, ne_eqb}
use Rattle.std.specs.Prelude.{◌==◌, if◌then◌else◌}
use Rattle.std.proofs.lemmas.Bool.{cond-true, cond-false, cases_eq}
use Rattle.std.proofs.Common.{◌≡◌, ℕ, Some, refl, sym, ap, ◌∙◌, eqb}
use Rattle.std.proofs.lemmas.Bool.{cond_both}
use Rattle.std.proofs.lemmas.Option.{same_Some}
use Rattle.vlock_word.specs.declared.lock_word.LockWord.{LockWord}
use Rattle.vlock_word.specs.declared.lock_word.LockWord.TheVariants.{Free, Locked}
use Rattle.vlock_word.specs.LockWord.{bits, unbits}
use Rattle.vlock_word.proofs.LockWordLemmas.{unbits_bits}
use Rattle.tx_machine.specs.Actor.{Place, Actor}
use Rattle.tx_machine.specs.Requests.{Request, ask}
use Rattle.tx_machine.specs.World.{World, now, exchanged, Deed, Rests, LoadClock, AddToClock, LoadLock, LoadValue, ExchangeLock}
use Rattle.tx_machine.specs.World.{StoreValue, StoreLock, does, StepEnd, GoesOn, Commits, Aborts, noted, plan, step, step_end, happens}
use Rattle.tx_machine.specs.World.{Ask}
use Rattle.tx_machine.specs.Cells.{Cell, ClockCell, LockCell, ValueCell, cell, word_of, becomes, learns}
use Rattle.tx_machine.proofs.Sets.{put-same, put-other}

lock_kept : (s : World) (a l : ℕ) (w : LockWord) (x : Actor) (d : Cell) → (Some (LockCell l) ≡ Some d → ⊥)
    → cell (does s a (StoreLock l w x)) d ≡ cell s d
lock_kept s a l w x ClockCell ne = refl
lock_kept s a l w x (ValueCell i) ne = refl
lock_kept s a l w x (LockCell i) ne = ap bits (put-other s.locks l w i (λ e. ne (ap (λ (n : ℕ). Some (LockCell n)) (sym e))))

value_kept : (s : World) (a l u : ℕ) (x : Actor) (d : Cell) → (Some (ValueCell l) ≡ Some d → ⊥) → cell (does s a (StoreValue l u x)) d
    ≡ cell s d
value_kept s a l u x ClockCell ne = refl
value_kept s a l u x (LockCell i) ne = refl
value_kept s a l u x (ValueCell i) ne = put-other s.values l u i (λ e. ne (ap (λ (n : ℕ). Some (ValueCell n)) (sym e)))

now_cell : (s : World) (a : ℕ) (x : Actor) (d : Cell) → cell (now s a x) d ≡ cell s d
now_cell s a x ClockCell = refl
now_cell s a x (LockCell i) = refl
now_cell s a x (ValueCell i) = refl

exchanged_cell : (s : World) (a l k : ℕ) (x y : Actor) (w : LockWord) (d : Cell) → (Some (LockCell l) ≡ Some d → ⊥)
    → cell (exchanged s a l k x y w) d ≡ cell s d
exchanged_cell s a l k x y (Free j) d ne =
    cond_both (eqb j k) (does s a (StoreLock l (Locked k) x)) (now s a y) (λ (z : World). cell z d ≡ cell s d)
    (λ _. lock_kept s a l (Locked k) x d ne)
    (λ _. now_cell s a y d)
exchanged_cell s a l k x y (Locked j) d ne = now_cell s a y d

does_cell : (s : World) (a : ℕ) (deed : Deed) (d : Cell) → (word_of deed ≡ Some d → ⊥) → cell (does s a deed) d ≡ cell s d
does_cell s a Rests d ne = refl
does_cell s a (LoadClock f) d ne = now_cell s a (f s.clock) d
does_cell s a (AddToClock f) ClockCell ne = absurd (ne refl)
does_cell s a (AddToClock f) (LockCell i) ne = refl
does_cell s a (AddToClock f) (ValueCell i) ne = refl
does_cell s a (LoadLock l f) d ne = now_cell s a (f (s.locks l)) d
does_cell s a (LoadValue l f) d ne = now_cell s a (f (s.values l)) d
does_cell s a (ExchangeLock l k x y) d ne = exchanged_cell s a l k x y (s.locks l) d ne
does_cell s a (StoreValue l v x) d ne = value_kept s a l v x d ne
does_cell s a (StoreLock l w x) d ne = lock_kept s a l w x d ne

noted_cell : (s : World) (o : StepEnd) (d : Cell) → cell (noted s o) d ≡ cell s d
noted_cell s GoesOn d = refl
noted_cell s (Commits r) ClockCell = refl
noted_cell s (Commits r) (LockCell i) = refl
noted_cell s (Commits r) (ValueCell i) = refl
noted_cell s (Aborts e) ClockCell = refl
noted_cell s (Aborts e) (LockCell i) = refl
noted_cell s (Aborts e) (ValueCell i) = refl

pub step_cell : (s : World) (a : ℕ) (x : Actor) (p : Place) (d : Cell) → (word_of (plan x p) ≡ Some d → ⊥) → cell (step s a x p) d
    ≡ cell s d
step_cell s a x p d ne = noted_cell (does s a (plan x p)) (step_end a x p) d ∙ does_cell s a (plan x p) d ne

pub ask_cell : (s : World) (a : ℕ) (request : Request) (d : Cell) → cell (happens s (Ask a request)) d ≡ cell s d
ask_cell s a request d = now_cell s a (ask (s.actors a) (s.actors a).place request) d

none_cell : {A : Type 0} → (d : Cell) → None ≡ Some d → A
none_cell d h = absurd (let b : ⊥ = cc in b)

twice : (j k : ℕ) → (j ≡ k → ⊥) → 2 * j ≡ 2 * k → ⊥
twice j k ne h = ne (omega (arith, h))

odd : (j k : ℕ) → 2 * j + 1 ≡ 2 * k → ⊥
odd j k h = omega (arith, h)

exchanged_becomes : (s : World) (a l k : ℕ) (x y : Actor) (w : LockWord) → s.locks l ≡ w → bits ((exchanged s a l k x y w).locks l)
    ≡ (if bits w == bits (Free k) then bits (Locked k) else bits w)
exchanged_becomes s a l k x y (Free j) e =
    elim (cases_eq j k) [
      | inl q ↦
          ap (λ (z : World). bits (z.locks l)) (cond-true (eqb j k) (does s a (StoreLock l (Locked k) x)) (now s a y) (eq-eqb j k q))
          ∙ ap bits (put-same s.locks l (Locked k))
          ∙ sym (cond-true (eqb (2 * j) (2 * k)) (2 * k + 1) (2 * j) (eq-eqb (2 * j) (2 * k) (ap (λ (n : ℕ). 2 * n) q)))
      | inr ne ↦
          ap (λ (z : World). bits (z.locks l)) (cond-false (eqb j k) (does s a (StoreLock l (Locked k) x)) (now s a y) (ne_eqb j k ne))
          ∙ ap bits e
          ∙ sym (cond-false (eqb (2 * j) (2 * k)) (2 * k + 1) (2 * j) (ne_eqb (2 * j) (2 * k) (twice j k ne)))
    ]
exchanged_becomes s a l k x y (Locked j) e = ap bits e
    ∙ sym (cond-false (eqb (2 * j + 1) (2 * k)) (2 * k + 1) (2 * j + 1) (ne_eqb (2 * j + 1) (2 * k) (odd j k)))

exchanged_learns : (s : World) (a l k : ℕ) (x y : Actor) (w : LockWord) → (exchanged s a l k x y w).actors a
    ≡ (if bits w == bits (Free k) then x else y)
exchanged_learns s a l k x y (Free j) =
    elim (cases_eq j k) [
      | inl q ↦
          ap (λ (z : World). z.actors a) (cond-true (eqb j k) (does s a (StoreLock l (Locked k) x)) (now s a y) (eq-eqb j k q))
          ∙ put-same s.actors a x
          ∙ sym (cond-true (eqb (2 * j) (2 * k)) x y (eq-eqb (2 * j) (2 * k) (ap (λ (n : ℕ). 2 * n) q)))
      | inr ne ↦
          ap (λ (z : World). z.actors a) (cond-false (eqb j k) (does s a (StoreLock l (Locked k) x)) (now s a y) (ne_eqb j k ne))
          ∙ put-same s.actors a y
          ∙ sym (cond-false (eqb (2 * j) (2 * k)) x y (ne_eqb (2 * j) (2 * k) (twice j k ne)))
    ]
exchanged_learns s a l k x y (Locked j) = put-same s.actors a y
    ∙ sym (cond-false (eqb (2 * j + 1) (2 * k)) x y (ne_eqb (2 * j + 1) (2 * k) (odd j k)))

does_becomes : (s : World) (a : ℕ) (deed : Deed) (d : Cell) → word_of deed ≡ Some d → cell (does s a deed) d ≡ becomes deed (cell s d)
does_becomes s a Rests d h = none_cell d h
does_becomes s a (LoadClock f) d h = subst (λ (z : Cell). cell (does s a (LoadClock f)) z ≡ cell s z) (same_Some ClockCell d h) refl
does_becomes s a (AddToClock f) d h = subst (λ (z : Cell). cell (does s a (AddToClock f)) z ≡ cell s z + 1) (same_Some ClockCell d h) refl
does_becomes s a (LoadLock l f) d h = subst (λ (z : Cell). cell (does s a (LoadLock l f)) z ≡ cell s z) (same_Some (LockCell l) d h) refl
does_becomes s a (LoadValue l f) d h = subst (λ (z : Cell). cell (does s a (LoadValue l f)) z ≡ cell s z) (same_Some (ValueCell l) d h) refl
does_becomes s a (ExchangeLock l k x y) d h =
    subst (λ (z : Cell). cell (does s a (ExchangeLock l k x y)) z ≡ (if cell s z == bits (Free k) then bits (Locked k) else cell s z))
    (same_Some (LockCell l) d h)
    (exchanged_becomes s a l k x y (s.locks l) refl)
does_becomes s a (StoreValue l v x) d h = subst (λ (z : Cell). cell (does s a (StoreValue l v x)) z ≡ v) (same_Some (ValueCell l) d h)
    (put-same s.values l v)
does_becomes s a (StoreLock l w x) d h = subst (λ (z : Cell). cell (does s a (StoreLock l w x)) z ≡ bits w) (same_Some (LockCell l) d h)
    (ap bits (put-same s.locks l w))

does_learns : (s : World) (a : ℕ) (deed : Deed) (d : Cell) → word_of deed ≡ Some d → (does s a deed).actors a
    ≡ learns deed (s.actors a) (cell s d)
does_learns s a Rests d h = none_cell d h
does_learns s a (LoadClock f) d h = put-same s.actors a (f s.clock) ∙ ap (λ (z : Cell). f (cell s z)) (same_Some ClockCell d h)
does_learns s a (AddToClock f) d h = put-same s.actors a (f s.clock) ∙ ap (λ (z : Cell). f (cell s z)) (same_Some ClockCell d h)
does_learns s a (LoadLock l f) d h = put-same s.actors a (f (s.locks l)) ∙ ap f (sym (unbits_bits (s.locks l)))
    ∙ ap (λ (z : Cell). f (unbits (cell s z))) (same_Some (LockCell l) d h)
does_learns s a (LoadValue l f) d h = put-same s.actors a (f (s.values l)) ∙ ap (λ (z : Cell). f (cell s z)) (same_Some (ValueCell l) d h)
does_learns s a (ExchangeLock l k x y) d h = exchanged_learns s a l k x y (s.locks l)
    ∙ ap (λ (z : Cell). if cell s z == bits (Free k) then x else y) (same_Some (LockCell l) d h)
does_learns s a (StoreValue l v x) d h = put-same s.actors a x
does_learns s a (StoreLock l w x) d h = put-same s.actors a x

noted_actors : (s : World) (o : StepEnd) (a : ℕ) → (noted s o).actors a ≡ s.actors a
noted_actors s GoesOn a = refl
noted_actors s (Commits r) a = refl
noted_actors s (Aborts e) a = refl

pub step_becomes : (s : World) (a : ℕ) (x : Actor) (p : Place) (d : Cell) → word_of (plan x p) ≡ Some d → cell (step s a x p) d
    ≡ becomes (plan x p) (cell s d)
step_becomes s a x p d h = noted_cell (does s a (plan x p)) (step_end a x p) d ∙ does_becomes s a (plan x p) d h

pub step_learns : (s : World) (a : ℕ) (x : Actor) (p : Place) (d : Cell) → word_of (plan x p) ≡ Some d → (step s a x p).actors a
    ≡ learns (plan x p) (s.actors a) (cell s d)
step_learns s a x p d h = noted_actors (does s a (plan x p)) (step_end a x p) a ∙ does_learns s a (plan x p) d h
