-- What is left of a list of locations is no longer than the set that it came from.
use Rattle.std.proofs.Common.{inl, inr, ◌≡◌, ℕ, ◌+◌, ◌<◌, ◌≤◌, Bool, true, false, eqb, ltb, leb, Option, Some, None, List, [], ◌∷◌, length}
use Rattle.std.proofs.Common.{length-append, refl, sym, ap, subst, arith}
use Rattle.std.specs.Prelude.{if◌then◌else◌}
use Rattle.std.proofs.lemmas.Bool.{cond_both, cases_eq}
use Rattle.vlock_word.specs.declared.lock_word.LockWord.{LockWord}
use Rattle.vlock_word.specs.declared.lock_word.LockWord.TheVariants.{Free, Locked}
use Rattle.tx_sets.specs.Entries.{Entries, lookup, with_entry, locations}
use Rattle.tx_machine.specs.Actor.{Place, Idle, Begin, Open, Look, Fetch, Again, Lock, Take, Check, Broken, First, Store, Release, Undo}
use Rattle.tx_machine.specs.Actor.{Leave, Close, Actor, goes, opened, has_read, taken, freed, after_release, clock_limit}
use Rattle.tx_machine.specs.Requests.{Request, AskBegin, AskBeginRead, AskLock, AskStore, AskRelease, AskCancel, AskAbort, AskClose}
use Rattle.tx_machine.specs.Requests.{AskRead, AskWrite, read, write, lock, close, abort, ask}
use Rattle.tx_machine.specs.World.{Memory, World, Event, Ask, Step, put, now, step, happens, run, start}
use Rattle.tx_machine.specs.Progress.{steps_left}
use Rattle.tx_machine.proofs.Worlds.{looked, looked_again, to_lock, locked, tried, checked, first, released, undone}
use Rattle.tx_machine.proofs.Sets.{put-same, put_both}
use Rattle.tx_machine.proofs.Invariant.{PlaceOk, Inv}
use Rattle.tx_machine.proofs.Schedules.{happens_ok, start_ok}
use Rattle.tx_machine.proofs.Progress.{length-locations, few_to_check}
use Rattle.tx_machine.proofs.AnswerBound.{step_other}

-- the locks held, and those still to come
abbrev Short : Actor → Place → Type 0
Short x (Lock ls) = length x.held + length ls ≤ length x.writes
Short x (Take l k ls) = length x.held + (1 + length ls) ≤ length x.writes
Short x (Check ls) = (length ls ≤ length x.reads) × (length x.held ≤ length x.writes)
Short x (Store ls) = (length ls ≤ length x.writes) × (length x.held ≤ length x.writes)
Short x p = length x.held ≤ length x.writes

abbrev ShortOk : Actor → Type 0
ShortOk y = Short y y.place

length-with_entry : (es : Entries) (l v : ℕ) → (length es ≤ length (with_entry es l v)) × (length (with_entry es l v) ≤ length es + 1)
unfolding with_entry
length-with_entry [] l v = (omega arith, omega arith)
length-with_entry (e ∷ es) l v =
    cond_both (ltb l e.0) ((l, v) ∷ (e ∷ es)) (if eqb l e.0 then (l, v) ∷ es else e ∷ with_entry es l v)
    (λ (z : Entries). (length (e ∷ es) ≤ length z) × (length z ≤ length (e ∷ es) + 1))
    (λ _. (omega arith, omega arith))
    (λ _. cond_both (eqb l e.0) ((l, v) ∷ es) (e ∷ with_entry es l v)
    (λ (z : Entries). (length (e ∷ es) ≤ length z) × (length z ≤ length (e ∷ es) + 1))
    (λ _. (omega arith, omega arith))
    (λ _. let q = length-with_entry es l v in (omega (arith, q.0), omega (arith, q.1))))

read_short : (x : Actor) (l : ℕ) (w r : Option ℕ) → length x.held ≤ length x.writes → ShortOk (read x l w r)
read_short x l (Some v) r h = h
read_short x l None (Some v) h = h
read_short x l None None h = h

write_short : (x : Actor) (declared : Bool) (l v : ℕ) → length x.held ≤ length x.writes → ShortOk x → ShortOk (write x declared l v)
write_short x true l v g h = h
write_short x false l v g h = (let q = length-with_entry x.writes l v in omega (arith, q.0, g))

lock_short : (x : Actor) (w : Entries) → x.writes ≡ w → x.held ≡ [] → ShortOk x → ShortOk (lock x w)
lock_short x [] e none h = h
lock_short x (f ∷ fs) e none h = (let q = length-locations (f ∷ fs) in let p = ap length e in let n = ap length none in omega
    (arith, q, p, n))

close_short : (x : Actor) (w : Entries) → length x.held ≤ length x.writes → ShortOk x → ShortOk (close x w)
close_short x [] g h = g
close_short x (f ∷ fs) g h = h

abort_short : (x : Actor) (w : Entries) → length x.held ≤ length x.writes → ShortOk x → ShortOk (abort x w)
abort_short x [] g h = g
abort_short x (f ∷ fs) g h = h

ask_short : (s : World) (x : Actor) (p : Place) (request : Request) → PlaceOk s x p → Short x p → ShortOk x → ShortOk (ask x p request)
ask_short s x Idle AskBegin pl g h = g
ask_short s x Idle AskBeginRead pl g h = g
ask_short s x Open (AskRead l) pl g h = read_short x l (lookup x.writes l) (lookup x.reads l) g
ask_short s x Open (AskWrite l v) pl g h = write_short x x.declared l v g h
ask_short s x Open AskLock pl g h = lock_short x x.writes refl pl h
ask_short s x Open AskClose pl g h = close_short x x.writes g h
ask_short s x Open AskAbort pl g h = g
ask_short s x (Look l) AskAbort pl g h = g
ask_short s x (Fetch l k) AskAbort pl g h = g
ask_short s x (Again l k v) AskAbort pl g h = g
ask_short s x Close AskAbort pl g h = g
ask_short s x Begin AskAbort pl g h = g
ask_short s x (Lock ls) AskCancel pl g h = omega (arith, g)
ask_short s x (Take l k ls) AskCancel pl g h = omega (arith, g)
ask_short s x (Check ls) AskCancel pl g h = g.1
ask_short s x Broken AskCancel pl g h = g
ask_short s x (Check []) AskStore pl g h = g.1
ask_short s x (Store []) AskRelease pl g h = g.1
ask_short s x Undo AskAbort pl g h = abort_short x x.held g h
ask_short s x p request pl g h = h

short_put : (actors : ℕ → Actor) (a : ℕ) (y : Actor) → ShortOk y → ShortOk (put actors a y a)
short_put actors a y h = subst ShortOk (sym (put-same actors a y)) h

short_if : (b : Bool) (y z : Actor) → ShortOk y → ShortOk z → ShortOk (if b then y else z)
short_if true y z f g = f
short_if false y z f g = g

short_world : (b : Bool) (s t : World) (a : ℕ) → ShortOk (s.actors a) → ShortOk (t.actors a) → ShortOk ((if b then s else t).actors a)
short_world true s t a f g = f
short_world false s t a f g = g

looked_short : (s : World) (a : ℕ) (x : Actor) (l : ℕ) (w : LockWord) → length x.held ≤ length x.writes
    → ShortOk ((looked s a x l w).actors a)
looked_short s a x l (Free k) g = short_put s.actors a _ (short_if (leb k x.rv) (goes x (Fetch l k)) (goes x Undo) g g)
looked_short s a x l (Locked k) g = short_put s.actors a (goes x Undo) g

again_short : (s : World) (a : ℕ) (x : Actor) (l k v : ℕ) (w : LockWord) → length x.held ≤ length x.writes
    → ShortOk ((looked_again s a x l k v w).actors a)
again_short s a x l k v (Free j) g = short_put s.actors a _ (short_if (eqb j k) (has_read x l v) (goes x Undo) g g)
again_short s a x l k v (Locked j) g = short_put s.actors a (goes x Undo) g

to_lock_short : (s : World) (a : ℕ) (x : Actor) (l : ℕ) (ls : List ℕ) (w : LockWord) → length x.held + length (l ∷ ls) ≤ length x.writes
    → ShortOk ((to_lock s a x l ls w).actors a)
to_lock_short s a x l ls (Free k) g = short_put s.actors a (goes x (Take l k ls)) (omega (arith, g))
to_lock_short s a x l ls (Locked k) g = short_put s.actors a (goes x Broken) (omega (arith, g))

take_short : (s : World) (a : ℕ) (x : Actor) (l k : ℕ) (ls : List ℕ) (w : LockWord) → length x.held + (1 + length ls) ≤ length x.writes
    → ShortOk ((tried s a x l k ls w).actors a)
take_short s a x l k ls (Free j) g =
    short_world (eqb j k) (locked s a x l k ls) (now s a (goes x Broken)) a
    (short_put s.actors a (taken x l k ls) (let q = length-append x.held ((l, k) ∷ []) in omega (arith, q, g)))
    (short_put s.actors a (goes x Broken) (omega (arith, g)))
take_short s a x l k ls (Locked j) g = short_put s.actors a (goes x Broken) (omega (arith, g))

check_short : (s : World) (a : ℕ) (x : Actor) (l : ℕ) (ls : List ℕ) (w : LockWord) (own : Option ℕ) → length (l ∷ ls) ≤ length x.reads
    → length x.held ≤ length x.writes → ShortOk ((checked s a x l ls w own).actors a)
check_short s a x l ls (Free k) own f g = short_put s.actors a _
    (short_if (leb k x.rv) (goes x (Check ls)) (goes x Broken) (omega (arith, f), g) g)
check_short s a x l ls (Locked k) (Some old) f g = short_put s.actors a _
    (short_if (leb k x.rv) (goes x (Check ls)) (goes x Broken) (omega (arith, f), g) g)
check_short s a x l ls (Locked k) None f g = short_put s.actors a (goes x Broken) g

first_short : (s : World) (a : ℕ) (w : Entries) → (s.actors a).writes ≡ w → ShortOk (s.actors a)
    → length (s.actors a).held ≤ length (s.actors a).writes → ShortOk ((first s a (s.actors a) w).actors a)
first_short s a [] e h g = h
first_short s a (f ∷ fs) e h g = short_put s.actors a (goes (s.actors a) (Store (locations fs)))
    ((let q = length-locations fs in let p = ap length e in omega (arith, q, p)), g)

freed_short : (actors : ℕ → Actor) (a : ℕ) (x : Actor) (es : Entries) → length es ≤ length x.writes
    → ShortOk (put actors a (freed x es (after_release es)) a)
freed_short actors a x [] h = short_put actors a (freed x [] Idle) h
freed_short actors a x (e ∷ es) h = short_put actors a (freed x (e ∷ es) Release) h

released_short : (s : World) (a : ℕ) (h : Entries) → (s.actors a).held ≡ h → ShortOk (s.actors a)
    → length (s.actors a).held ≤ length (s.actors a).writes → ShortOk ((released s a (s.actors a) h).actors a)
released_short s a [] e h g = h
released_short s a (f ∷ fs) e h g = freed_short s.actors a (s.actors a) fs (let p = ap length e in omega (arith, p, g))

undone_short : (s : World) (a : ℕ) (h : Entries) → (s.actors a).held ≡ h → ShortOk (s.actors a)
    → length (s.actors a).held ≤ length (s.actors a).writes → ShortOk ((undone s a (s.actors a) h).actors a)
undone_short s a [] e h g = h
undone_short s a (f ∷ fs) e h g = short_put s.actors a (freed (s.actors a) fs Undo) (let p = ap length e in omega (arith, p, g))

step_short : (s : World) (a : ℕ) (p : Place) → Short (s.actors a) p → ShortOk (s.actors a) → ShortOk ((step s a (s.actors a) p).actors a)
step_short s a Idle g h = h
step_short s a Begin g h = short_put s.actors a _
    (short_if (ltb s.clock clock_limit) (opened (s.actors a).declared s.clock) (goes (s.actors a) Idle) (omega arith) g)
step_short s a Open g h = h
step_short s a (Look l) g h = looked_short s a (s.actors a) l (s.locks l) g
step_short s a (Fetch l k) g h = short_put s.actors a (goes (s.actors a) (Again l k (s.values l))) g
step_short s a (Again l k v) g h = again_short s a (s.actors a) l k v (s.locks l) g
step_short s a (Lock []) g h = subst ShortOk (sym (put-same s.actors a _)) (few_to_check (s.actors a) (s.clock + 1), omega (arith, g))
step_short s a (Lock (l ∷ ls)) g h = to_lock_short s a (s.actors a) l ls (s.locks l) g
step_short s a (Take l k ls) g h = take_short s a (s.actors a) l k ls (s.locks l) g
step_short s a (Check []) g h = h
step_short s a (Check (l ∷ ls)) g h = check_short s a (s.actors a) l ls (s.locks l) (lookup (s.actors a).writes l) g.0 g.1
step_short s a Broken g h = h
step_short s a First g h = first_short s a (s.actors a).writes refl h g
step_short s a (Store []) g h = h
step_short s a (Store (l ∷ ls)) g h = short_put s.actors a (goes (s.actors a) (Store ls)) (omega (arith, g.0), g.1)
step_short s a Release g h = released_short s a (s.actors a).held refl h g
step_short s a Undo g h = undone_short s a (s.actors a).held refl h g
step_short s a Leave g h = short_put s.actors a (goes (s.actors a) Idle) g
step_short s a Close g h = short_put s.actors a (goes (s.actors a) Idle) g

happens_short : (s : World) (e : Event) (a : ℕ) → Inv s → ((b : ℕ) → ShortOk (s.actors b)) → ShortOk ((happens s e).actors a)
happens_short s (Ask b request) a v all =
    put_both ShortOk s.actors b (ask (s.actors b) (s.actors b).place request) a
    (λ _. ask_short s (s.actors b) (s.actors b).place request (v.actors b).place (all b) (all b))
    (λ _. all a)
happens_short s (Step b) a v all = go a
  where
    own : ShortOk ((happens s (Step b)).actors b)
    own = step_short s b (s.actors b).place (all b) (all b)

    go : (a : ℕ) → ShortOk ((happens s (Step b)).actors a)
    go a = elim (cases_eq a b) [
      | inl e ↦ subst (λ (n : ℕ). ShortOk ((happens s (Step b)).actors n)) (sym e) own
      | inr ne ↦ subst ShortOk (sym (step_other s b a ne)) (all a)
    ]

run_short : (events : List Event) (s : World) → Inv s → ((b : ℕ) → ShortOk (s.actors b)) → (a : ℕ) → ShortOk ((run events s).actors a)
run_short [] s v all a = all a
run_short (e ∷ es) s v all a = run_short es (happens s e) (happens_ok s e v).inv (λ b. happens_short s e b v all) a

-- and so are the steps of a request
few_steps : (x : Actor) (p : Place) → Short x p → length x.reads ≤ 4096 → length x.writes ≤ 4096 → steps_left x p < 1000000
few_steps x Idle h r w = omega arith
few_steps x Begin h r w = omega arith
few_steps x Open h r w = omega arith
few_steps x (Look l) h r w = omega arith
few_steps x (Fetch l k) h r w = omega arith
few_steps x (Again l k v) h r w = omega arith
few_steps x (Lock ls) h r w = omega (arith, h, r, w)
few_steps x (Take l k ls) h r w = omega (arith, h, r, w)
few_steps x (Check ls) h r w = omega (arith, h.0, r)
few_steps x Broken h r w = omega arith
few_steps x First h r w = omega (arith, w)
few_steps x (Store ls) h r w = omega (arith, h.0, w)
few_steps x Release h r w = omega (arith, h, w)
few_steps x Undo h r w = omega (arith, h, w)
few_steps x Leave h r w = omega arith
few_steps x Close h r w = omega arith

pub few : (events : List Event) (clock : ℕ) (memory : Memory) (a : ℕ)
    → let s = run events (start clock memory) in length (s.actors a).reads ≤ 4096 → length (s.actors a).writes ≤ 4096
    → steps_left (s.actors a) (s.actors a).place < 1000000
few events clock memory a r w =
    let s = run events (start clock memory) in
    few_steps (s.actors a) (s.actors a).place (run_short events (start clock memory) (start_ok clock memory) (λ b. omega arith) a) r w
