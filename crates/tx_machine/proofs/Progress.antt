-- Each own step of a request brings it nearer to its answer, whatever others do.
use Rattle.std.proofs.Common.{◌≡◌, ℕ, suc, ◌+◌, ◌*◌, ◌<◌, ◌≤◌, eqb, ltb, leb, Option, Some, None, List, [], ◌∷◌, length, refl, sym, ap}
use Rattle.std.proofs.Common.{subst, arith}
use Rattle.std.proofs.lemmas.Bool.{cond_both}
use Rattle.vlock_word.specs.declared.lock_word.LockWord.{LockWord}
use Rattle.vlock_word.specs.declared.lock_word.LockWord.TheVariants.{Free, Locked}
use Rattle.tx_sets.specs.Entries.{Entries, lookup, locations}
use Rattle.tx_machine.specs.Actor.{Place, Idle, Begin, Open, Look, Fetch, Again, Lock, Take, Check, Broken, First, Store, Release, Undo}
use Rattle.tx_machine.specs.Actor.{Leave, Close, Actor, goes, opened, clock_limit, has_read, to_check}
use Rattle.tx_machine.specs.World.{put, World, Step, now, step, happens}
use Rattle.tx_machine.proofs.Worlds.{looked, looked_again, to_lock, tried, locked, checked, first, released, undone}
use Rattle.tx_machine.specs.Progress.{steps_left}
use Rattle.tx_machine.proofs.Sets.{put-same}
use Rattle.tx_machine.proofs.Invariant.{IsSomeEntry, PlaceOk, Inv}

pub length-locations : (es : Entries) → length (locations es) ≡ length es
unfolding locations
length-locations [] = refl
length-locations (e ∷ es) = ap suc (length-locations es)

-- what is to be checked is no longer than the read set
pub few_to_check : (x : Actor) (wv : ℕ) → length (to_check x wv) ≤ length x.reads
few_to_check x wv = cond_both (eqb (x.rv + 1) wv) [] (locations x.reads) (λ (ls : List ℕ). length ls ≤ length x.reads) (λ _. omega arith)
    (λ _. let q = length-locations x.reads in omega (arith, q))

-- fewer than n steps are left to actor a
abbrev pub Nearer : ℕ → Actor → Type 0
Nearer n x = steps_left x x.place < n

nearer_put : (n : ℕ) (actors : ℕ → Actor) (a : ℕ) (y : Actor) → Nearer n y → Nearer n (put actors a y a)
nearer_put n actors a y h = subst (Nearer n) (sym (put-same actors a y)) h

looked_nearer : (s : World) (a : ℕ) (x : Actor) (l : ℕ) (w : LockWord) → x.held ≡ [] → Nearer 3 ((looked s a x l w).actors a)
looked_nearer s a x l (Free k) e = cond_both (leb k x.rv) (goes x (Fetch l k)) (goes x Undo) (λ (z : Actor). Nearer 3 (put s.actors a z a))
    (λ _. nearer_put 3 s.actors a (goes x (Fetch l k)) (omega arith))
    (λ _. nearer_put 3 s.actors a (goes x Undo) (let q = ap length e in omega (arith, q)))
looked_nearer s a x l (Locked k) e = nearer_put 3 s.actors a (goes x Undo) (let q = ap length e in omega (arith, q))

again_nearer : (s : World) (a : ℕ) (x : Actor) (l k v : ℕ) (w : LockWord) → x.held ≡ [] → Nearer 1 ((looked_again s a x l k v w).actors a)
again_nearer s a x l k v (Free j) e = cond_both (eqb j k) (has_read x l v) (goes x Undo) (λ (z : Actor). Nearer 1 (put s.actors a z a))
    (λ _. nearer_put 1 s.actors a (has_read x l v) (omega arith))
    (λ _. nearer_put 1 s.actors a (goes x Undo) (let q = ap length e in omega (arith, q)))
again_nearer s a x l k v (Locked j) e = nearer_put 1 s.actors a (goes x Undo) (let q = ap length e in omega (arith, q))

to_lock_nearer : (s : World) (a : ℕ) (x : Actor) (l : ℕ) (ls : List ℕ) (w : LockWord)
    → Nearer (2 * length (l ∷ ls) + 1 + length x.reads) ((to_lock s a x l ls w).actors a)
to_lock_nearer s a x l ls (Free k) = nearer_put (2 * length (l ∷ ls) + 1 + length x.reads) s.actors a (goes x (Take l k ls)) (omega arith)
to_lock_nearer s a x l ls (Locked k) = nearer_put (2 * length (l ∷ ls) + 1 + length x.reads) s.actors a (goes x Broken) (omega arith)

take_nearer : (s : World) (a : ℕ) (x : Actor) (l k : ℕ) (ls : List ℕ) (w : LockWord)
    → Nearer (2 * length ls + 2 + length x.reads) ((tried s a x l k ls w).actors a)
take_nearer s a x l k ls (Free j) = cond_both (eqb j k) (locked s a x l k ls) (now s a (goes x Broken))
    (λ (z : World). Nearer (2 * length ls + 2 + length x.reads) (z.actors a))
    (λ _. subst (Nearer (2 * length ls + 2 + length x.reads)) (sym (put-same s.actors a _)) (omega arith))
    (λ _. nearer_put (2 * length ls + 2 + length x.reads) s.actors a (goes x Broken) (omega arith))
take_nearer s a x l k ls (Locked j) = nearer_put (2 * length ls + 2 + length x.reads) s.actors a (goes x Broken) (omega arith)

check_nearer : (s : World) (a : ℕ) (x : Actor) (l : ℕ) (ls : List ℕ) (w : LockWord) (own : Option ℕ)
    → Nearer (length (l ∷ ls)) ((checked s a x l ls w own).actors a)
check_nearer s a x l ls (Free k) own = cond_both (leb k x.rv) (goes x (Check ls)) (goes x Broken)
    (λ (z : Actor). Nearer (length (l ∷ ls)) (put s.actors a z a))
    (λ _. nearer_put (length (l ∷ ls)) s.actors a (goes x (Check ls)) (omega arith))
    (λ _. nearer_put (length (l ∷ ls)) s.actors a (goes x Broken) (omega arith))
check_nearer s a x l ls (Locked k) (Some old) = cond_both (leb k x.rv) (goes x (Check ls)) (goes x Broken)
    (λ (z : Actor). Nearer (length (l ∷ ls)) (put s.actors a z a))
    (λ _. nearer_put (length (l ∷ ls)) s.actors a (goes x (Check ls)) (omega arith))
    (λ _. nearer_put (length (l ∷ ls)) s.actors a (goes x Broken) (omega arith))
check_nearer s a x l ls (Locked k) None = nearer_put (length (l ∷ ls)) s.actors a (goes x Broken) (omega arith)

first_nearer : (s : World) (a : ℕ) (x : Actor) (w : Entries) → IsSomeEntry w → Nearer (length w) ((first s a x w).actors a)
first_nearer s a x [] n = absurd n
first_nearer s a x (e ∷ es) n = nearer_put (length (e ∷ es)) s.actors a (goes x (Store (locations es)))
    (let q = length-locations es in omega (arith, q))

released_nearer : (s : World) (a : ℕ) (x : Actor) (h : Entries) → IsSomeEntry h → Nearer (length h) ((released s a x h).actors a)
released_nearer s a x [] n = absurd n
released_nearer s a x (e ∷ []) n = subst (Nearer (length (e ∷ []))) (sym (put-same s.actors a _)) (omega arith)
released_nearer s a x (e ∷ (f ∷ es)) n = subst (Nearer (length (e ∷ (f ∷ es)))) (sym (put-same s.actors a _)) (omega arith)

undone_nearer : (s : World) (a : ℕ) (x : Actor) (h : Entries) → 0 < length h → Nearer (length h) ((undone s a x h).actors a)
undone_nearer s a x [] p = absurd (omega (arith, p))
undone_nearer s a x (e ∷ es) p = subst (Nearer (length (e ∷ es))) (sym (put-same s.actors a _)) (omega arith)

step_nearer : (s : World) (a : ℕ) (x : Actor) (p : Place) → PlaceOk s x p → 0 < steps_left x p
    → Nearer (steps_left x p) ((step s a x p).actors a)
step_nearer s a x Idle pl h = absurd (omega (arith, h))
step_nearer s a x Begin pl h = cond_both (ltb s.clock clock_limit) (opened x.declared s.clock) (goes x Idle)
    (λ (z : Actor). Nearer 1 (put s.actors a z a))
    (λ _. nearer_put 1 s.actors a (opened x.declared s.clock) (omega arith)) (λ _. nearer_put 1 s.actors a (goes x Idle) (omega arith))
step_nearer s a x Open pl h = absurd (omega (arith, h))
step_nearer s a x (Look l) pl h = looked_nearer s a x l (s.locks l) pl.0
step_nearer s a x (Fetch l k) pl h = nearer_put 2 s.actors a (goes x (Again l k (s.values l))) (omega arith)
step_nearer s a x (Again l k v) pl h = again_nearer s a x l k v (s.locks l) (pl.0).0
step_nearer s a x (Lock []) pl h = subst (Nearer (2 * 0 + 1 + length x.reads)) (sym (put-same s.actors a _))
    (let q = few_to_check x (s.clock + 1) in omega (arith, q))
step_nearer s a x (Lock (l ∷ ls)) pl h = to_lock_nearer s a x l ls (s.locks l)
step_nearer s a x (Take l k ls) pl h = take_nearer s a x l k ls (s.locks l)
step_nearer s a x (Check []) pl h = absurd (omega (arith, h))
step_nearer s a x (Check (l ∷ ls)) pl h = check_nearer s a x l ls (s.locks l) (lookup x.writes l)
step_nearer s a x Broken pl h = absurd (omega (arith, h))
step_nearer s a x First pl h = first_nearer s a x x.writes (pl.0).some
step_nearer s a x (Store []) pl h = absurd (omega (arith, h))
step_nearer s a x (Store (l ∷ ls)) pl h = nearer_put (length (l ∷ ls)) s.actors a (goes x (Store ls)) (omega arith)
step_nearer s a x Release pl h = released_nearer s a x x.held pl.some
step_nearer s a x Undo pl h = undone_nearer s a x x.held h
step_nearer s a x Leave pl h = nearer_put 1 s.actors a (goes x Idle) (omega arith)
step_nearer s a x Close pl h = nearer_put 1 s.actors a (goes x Idle) (omega arith)

pub progress : (s : World) (a : ℕ) → Inv s → 0 < steps_left (s.actors a) (s.actors a).place
    → Nearer (steps_left (s.actors a) (s.actors a).place) ((happens s (Step a)).actors a)
progress s a v h = step_nearer s a (s.actors a) (s.actors a).place (v.actors a).place h
