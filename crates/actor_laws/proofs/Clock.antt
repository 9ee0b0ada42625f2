-- A step advances the clock no further than its actor may.
--
-- An actor may advance it once, from its begin to the number of its commit. A request gives no such right but by a begin, whose step
-- finds the clock below the limit; the step that advances the clock uses the right up, and no other step gives it back.
use Rattle.std.proofs.Common.{◌≡◌, ℕ, ◌+◌, ◌<◌, ◌≤◌, ◌⊎◌, ltb, ltb-true, nat_le, Option, Some, None, List, [], ◌∷◌, refl, ap, inl, inr}
use Rattle.std.proofs.Common.{arith}
use Rattle.std.proofs.lemmas.Bool.{cond_both}
use Rattle.tx_sets.specs.Entries.{Entries, lookup}
use Rattle.vlock_word.specs.declared.lock_word.LockWord.{LockWord}
use Rattle.vlock_word.specs.declared.lock_word.LockWord.TheVariants.{Free, Locked}
use Rattle.vlock_word.specs.LockWord.{unbits}
use Rattle.tx_machine.specs.Actor.{Actor, Place, Idle, Begin, Open, Look, Fetch, Again, Lock, Take, Check, Broken, First, Store, Release}
use Rattle.tx_machine.specs.Actor.{Undo, Leave, Close, clock_limit, goes, opened, begun, seen, seen_again, seen_to_lock, seen_in_check}
use Rattle.tx_machine.specs.Requests.{Request, AskBegin, AskBeginRead, AskLock, AskStore, AskRelease, AskCancel, AskAbort, AskClose}
use Rattle.tx_machine.specs.Requests.{AskRead, AskWrite, ask, read, write, lock, close, abort}
use Rattle.tx_machine.specs.World.{Deed, Rests, LoadClock, AddToClock, LoadLock, LoadValue, ExchangeLock, StoreValue, StoreLock, plan}
use Rattle.tx_machine.specs.World.{first_store, release, undo}
use Rattle.tx_machine.specs.Cells.{ClockCell, word_of, becomes, learns}
use Rattle.actor_laws.specs.Clock.{stamps_left}

pub one_left : (p : Place) → stamps_left p ≤ 1
one_left Open = omega arith
one_left (Look l) = omega arith
one_left (Fetch l k) = omega arith
one_left (Again l k v) = omega arith
one_left (Lock ls) = omega arith
one_left (Take l k ls) = omega arith
one_left p = omega arith

-- a request gives no right to advance the clock
pub ask_left : (x : Actor) (p : Place) (q : Request) → x.place ≡ p → stamps_left (ask x p q).place ≤ stamps_left p
ask_left x Idle AskBegin e = omega arith
ask_left x Idle AskBeginRead e = omega arith
ask_left x Open (AskRead l) e = one_left (read x l (lookup x.writes l) (lookup x.reads l)).place
ask_left x Open (AskWrite l v) e = one_left (write x x.declared l v).place
ask_left x Open AskLock e = one_left (lock x x.writes).place
ask_left x Open AskClose e = one_left (close x x.writes).place
ask_left x Open AskAbort e = omega arith
ask_left x (Look l) AskAbort e = omega arith
ask_left x (Fetch l k) AskAbort e = omega arith
ask_left x (Again l k v) AskAbort e = omega arith
ask_left x Close AskAbort e = omega arith
ask_left x Begin AskAbort e = omega arith
ask_left x (Lock ls) AskCancel e = omega arith
ask_left x (Take l k ls) AskCancel e = omega arith
ask_left x (Check ls) AskCancel e = omega arith
ask_left x Broken AskCancel e = omega arith
ask_left x (Check []) AskStore e = omega arith
ask_left x (Store []) AskRelease e = omega arith
ask_left x Undo AskAbort e = aborts x.held
  where
    aborts : (h : Entries) → stamps_left (abort x h).place ≤ stamps_left Undo
    aborts [] = omega arith
    aborts (d ∷ ds) = let z : stamps_left x.place ≡ 0 = ap stamps_left e in omega arith
ask_left x p q e = let z : stamps_left x.place ≡ stamps_left p = ap stamps_left e in omega arith

-- how much a step adds to the clock
abbrev pub grows : Deed → ℕ
grows (AddToClock found) = 1
grows d = 0

check_left : (x : Actor) (ls : List ℕ) (w : LockWord) (own : Option ℕ) → stamps_left (seen_in_check x ls w own).place ≡ 0
check_left x ls (Free k) own = cond_both (nat_le k x.rv) (goes x (Check ls)) (goes x Broken) (λ (z : Actor). stamps_left z.place ≡ 0)
    (λ _. refl) (λ _. refl)
check_left x ls (Locked k) (Some v) = cond_both (nat_le k x.rv) (goes x (Check ls)) (goes x Broken)
    (λ (z : Actor). stamps_left z.place ≡ 0) (λ _. refl) (λ _. refl)
check_left x ls (Locked k) None = refl

-- a step grows the clock no further than its actor may, or it begins below the limit
abbrev pub Pays : Deed → ℕ → ℕ → ℕ → Type 0
Pays d k before after = (grows d + after ≤ before) ⊎ ((grows d ≡ 0) × (word_of d ≡ Some ClockCell) × (k < clock_limit))

begins : (x : Actor) (k : ℕ) → Pays (LoadClock (begun x)) k 0 (stamps_left (begun x k).place)
begins x k =
    cond_both (ltb k clock_limit) (opened x.declared k) (goes x Idle) (λ (z : Actor). Pays (LoadClock (begun x)) k 0 (stamps_left z.place))
    (λ t. inr (refl, refl, ltb-true k clock_limit t))
    (λ f. inl (omega arith))

first_pays : (x : Actor) (es : Entries) (k : ℕ) → x.place ≡ First → Pays (first_store x es) k 0
    (stamps_left (learns (first_store x es) x k).place)
first_pays x [] k e = inl (let z : stamps_left x.place ≡ 0 = ap stamps_left e in omega arith)
first_pays x (d ∷ ds) k e = inl (omega arith)

release_pays : (x : Actor) (es : Entries) (k : ℕ) → x.place ≡ Release → Pays (release x es) k 0
    (stamps_left (learns (release x es) x k).place)
release_pays x [] k e = inl (let z : stamps_left x.place ≡ 0 = ap stamps_left e in omega arith)
release_pays x (d ∷ []) k e = inl (omega arith)
release_pays x (d ∷ (f ∷ fs)) k e = inl (omega arith)

undo_pays : (x : Actor) (es : Entries) (k : ℕ) → x.place ≡ Undo → Pays (undo x es) k 0 (stamps_left (learns (undo x es) x k).place)
undo_pays x [] k e = inl (let z : stamps_left x.place ≡ 0 = ap stamps_left e in omega arith)
undo_pays x (d ∷ ds) k e = inl (omega arith)

pub pays : (x : Actor) (p : Place) (k : ℕ) → x.place ≡ p → Pays (plan x p) k (stamps_left p) (stamps_left (learns (plan x p) x k).place)
pays x Idle k e = inl (let z : stamps_left x.place ≡ 0 = ap stamps_left e in omega arith)
pays x Begin k e = begins x k
pays x Open k e = inl (let z : stamps_left x.place ≡ 1 = ap stamps_left e in omega arith)
pays x (Look l) k e = inl (let z = one_left (seen x l (unbits k)).place in omega arith)
pays x (Fetch l j) k e = inl (omega arith)
pays x (Again l j v) k e = inl (let z = one_left (seen_again x l j v (unbits k)).place in omega arith)
pays x (Lock []) k e = inl (omega arith)
pays x (Lock (l ∷ ls)) k e = inl (let z = one_left (seen_to_lock x l ls (unbits k)).place in omega arith)
pays x (Take l j ls) k e = inl (let z = one_left (learns (plan x (Take l j ls)) x k).place in omega arith)
pays x (Check []) k e = inl (let z : stamps_left x.place ≡ 0 = ap stamps_left e in omega arith)
pays x (Check (l ∷ ls)) k e = inl (let z = check_left x ls (unbits k) (lookup x.writes l) in omega arith)
pays x Broken k e = inl (let z : stamps_left x.place ≡ 0 = ap stamps_left e in omega arith)
pays x First k e = first_pays x x.writes k e
pays x (Store []) k e = inl (let z : stamps_left x.place ≡ 0 = ap stamps_left e in omega arith)
pays x (Store (l ∷ ls)) k e = inl (omega arith)
pays x Release k e = release_pays x x.held k e
pays x Undo k e = undo_pays x x.held k e
pays x Leave k e = inl (omega arith)
pays x Close k e = inl (omega arith)

-- what a step makes of the clock
pub clock_grows : (d : Deed) (k : ℕ) → word_of d ≡ Some ClockCell → becomes d k ≡ k + grows d
clock_grows (LoadClock f) k e = omega arith
clock_grows (AddToClock f) k e = omega arith
clock_grows Rests k e = omega arith
clock_grows (LoadLock l f) k e = omega arith
clock_grows (LoadValue l f) k e = omega arith
clock_grows (ExchangeLock l j x y) k e = cc
clock_grows (StoreValue l v x) k e = cc
clock_grows (StoreLock l w x) k e = cc

pub clock_stays : (d : Deed) → (word_of d ≡ Some ClockCell → ⊥) → grows d ≡ 0
clock_stays (AddToClock f) ne = absurd (ne refl)
clock_stays d ne = refl
