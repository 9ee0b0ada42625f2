-- The phase of an actor, and what a request that is not refused says of it.
use Rattle.std.proofs.Common.{◌≡◌, ℕ, ◌<◌, ◌≤◌, Bool, true, false, Option, Some, None, List, [], ◌∷◌, length, refl, sym, ap, ◌∙◌, subst}
use Rattle.std.proofs.Common.{drop, ltb-true, leb-true, arith, true≢false}
use Rattle.std.specs.Prelude.{nat_lt, nat_le, not, ◌&&◌, if◌then◌else◌, slice_get}
use Rattle.std.proofs.lemmas.Bool.{and_parts, not-true}
use Rattle.tx_sets.specs.Entries.{Entries, lookup, locations}
use Rattle.tx_machine.specs.Actor as machine
use Rattle.tx_machine.specs.Requests.{Request, AskBegin, AskBeginRead, AskLock, AskStore, AskRelease, AskCancel, AskAbort, AskClose}
use Rattle.tx_machine.specs.Requests.{AskRead, AskWrite}
use Rattle.step_core.specs.Phases.{phase_of, allows, undo_phase, wrong_phase, location_refusal, if_new, refusal_at}
use Rattle.step_core.specs.Shown.{place_of, actor_of, Shown, shown, actor_in, is_actor, refusal_of}
use Rattle.step_core.specs.Sound.{IsWithin}
use Rattle.step_core.specs.declared.phase.Phase.TheVariants.{Locking, Locked, Busy, Stored}
use Rattle.step_core.specs.declared.answer.WordRefusal.{WordRefusal}
use Rattle.step_core.specs.declared.answer.WordRefusal.TheVariants.{NoSuch}
use Rattle.step_core.specs.declared.actor.Actor.{Actor}
use Rattle.step_core.specs.declared.actor.Place.{Place}
use Rattle.step_core.specs.declared.actor.Place.TheVariants.{Idle, Begin, Open, Look, Fetch, Again, Lock, Take, Check, Broken, First, Store}
use Rattle.step_core.specs.declared.actor.Place.TheVariants.{Release, Undo, Leave, Close}
use Rattle.step_core.specs.declared.machine.Machine.{Machine}
use Rattle.step_core.specs.declared.machine.TheConstants.{LAST_ACTOR, SEATS}
use Rattle.step_core.proofs.Lists.{drop_here, drop_end}
use Rattle.step_core.proofs.Moves.{actor_at_go}

-- the phase at a place
phase_at : (x : Actor) (p : Place) → x.place ≡ p → phase_of (actor_of x) (actor_of x).place
    ≡ phase_of (actor_of x) (place_of x.reads.entries x.writes.entries p)
phase_at x p e = ap (λ (z : Place). phase_of (actor_of x) (place_of x.reads.entries x.writes.entries z)) e

pub checking : (x : Actor) (i : ℕ) → x.place ≡ Check i → i < length x.reads.entries → Locking ≡ phase_of (actor_of x) (actor_of x).place
checking x i e h = sym (phase_at x (Check i) e
    ∙ ap (λ (ls : List ℕ). phase_of (actor_of x) (machine.Check ls)) (drop_here x.reads.entries i (0, 0) h))

pub checked : (x : Actor) (i : ℕ) → x.place ≡ Check i → length x.reads.entries ≤ i → Locked ≡ phase_of (actor_of x) (actor_of x).place
checked x i e h = sym (phase_at x (Check i) e ∙ ap (λ (ls : List ℕ). phase_of (actor_of x) (machine.Check ls))
    (drop_end x.reads.entries i h))

pub storing : (x : Actor) (i : ℕ) → x.place ≡ Store i → i < length x.writes.entries → Busy ≡ phase_of (actor_of x) (actor_of x).place
storing x i e h = sym (phase_at x (Store i) e ∙ ap (λ (ls : List ℕ). phase_of (actor_of x) (machine.Store ls))
    (drop_here x.writes.entries i (0, 0) h))

pub stored : (x : Actor) (i : ℕ) → x.place ≡ Store i → length x.writes.entries ≤ i → Stored ≡ phase_of (actor_of x) (actor_of x).place
stored x i e h = sym (phase_at x (Store i) e ∙ ap (λ (ls : List ℕ). phase_of (actor_of x) (machine.Store ls))
    (drop_end x.writes.entries i h))

no : {A : Type 0} → (b : Bool) → b ≡ false → b ≡ true → A
no b f t = absurd (true≢false (sym t ∙ f))

check_no_write : (x : machine.Actor) (ls : List ℕ) (l v : ℕ) → allows (phase_of x (machine.Check ls)) (AskWrite l v) ≡ false
check_no_write x [] l v = refl
check_no_write x (m ∷ ls) l v = refl

store_no_write : (x : machine.Actor) (ls : List ℕ) (l v : ℕ) → allows (phase_of x (machine.Store ls)) (AskWrite l v) ≡ false
store_no_write x [] l v = refl
store_no_write x (m ∷ ls) l v = refl

undo_no_write : (h : Entries) (l v : ℕ) → allows (undo_phase h) (AskWrite l v) ≡ false
undo_no_write [] l v = refl
undo_no_write (e ∷ es) l v = refl

-- who may write stands in the open
pub write_open : (m : machine.Actor) (r w : Entries) (p : Place) (l v : ℕ) → allows (phase_of m (place_of r w p)) (AskWrite l v) ≡ true
    → p ≡ Open
write_open m r w Idle l v h = no false refl h
write_open m r w Begin l v h = no false refl h
write_open m r w Open l v h = refl
write_open m r w (Look i) l v h = no false refl h
write_open m r w (Fetch i k) l v h = no false refl h
write_open m r w (Again i k u) l v h = no false refl h
write_open m r w (Lock i) l v h = no false refl h
write_open m r w (Take i k j) l v h = no false refl h
write_open m r w (Check i) l v h = no (allows (phase_of m (machine.Check (drop i (locations r)))) (AskWrite l v))
    (check_no_write m (drop i (locations r)) l v) h
write_open m r w Broken l v h = no false refl h
write_open m r w First l v h = no false refl h
write_open m r w (Store i) l v h = no (allows (phase_of m (machine.Store (drop i (locations w)))) (AskWrite l v))
    (store_no_write m (drop i (locations w)) l v) h
write_open m r w Release l v h = no false refl h
write_open m r w Undo l v h = no (allows (undo_phase m.held) (AskWrite l v)) (undo_no_write m.held l v) h
write_open m r w Leave l v h = no false refl h
write_open m r w Close l v h = no false refl h

-- nothing is refused, so the test went well
if_none : (b : Bool) (o : Option WordRefusal) (e : WordRefusal) → (if b then o else Some e) ≡ None → (b ≡ true) × (o ≡ None)
if_none true o e h = (refl, h)
if_none false o e h = (let b : ⊥ = cc in absurd b)

-- an actor has a seat
pub seat_of : (v : Shown) (a : ℕ) (q : Request) → refusal_of v a q ≡ None → a < SEATS
seat_of v a q h =
    let t = (if_none (is_actor a) (refusal_at (length v.values) (actor_in v a) (actor_in v a).place q) NoSuch h).0 in
    let low = leb-true a LAST_ACTOR (and_parts (nat_le 1 a) (nat_le a LAST_ACTOR) t).1 in omega (arith, low)

pub lawful : (v : Shown) (a : ℕ) (q : Request) → refusal_of v a q ≡ None
    → (allows (phase_of (actor_in v a) (actor_in v a).place) q ≡ true) × (location_refusal (length v.values) (actor_in v a) q ≡ None)
lawful v a q h =
    let x = actor_in v a in
    let t = (if_none (is_actor a) (refusal_at (length v.values) x x.place q) NoSuch h).1 in
    if_none (allows (phase_of x x.place) q) (location_refusal (length v.values) x q) (wrong_phase (phase_of x x.place) q) t

-- a request that is not refused is one of the phase
pub allowed_here : (w : Machine) (a : ℕ) (x : Actor) (q : Request) → slice_get w.actors.items a ≡ Some x → refusal_of (shown w) a q
    ≡ None → allows (phase_of (actor_of x) (actor_of x).place) q ≡ true
allowed_here w a x q got h = subst (λ (z : machine.Actor). allows (phase_of z z.place) q ≡ true) (actor_at_go w.actors.items a x got)
    (lawful (shown w) a q h).0

pub within_of : (n : ℕ) (x : machine.Actor) (q : Request) → location_refusal n x q ≡ None → IsWithin n q
within_of n x (AskRead l) h = ltb-true l n (if_none (nat_lt l n) (if_new (lookup x.writes l) (lookup x.reads l) x.reads) NoSuch h).0
within_of n x (AskWrite l v) h = ltb-true l n (and_parts (nat_lt l n) (not x.declared)
    (if_none (nat_lt l n && not x.declared) (if_new (lookup x.writes l) None x.writes) NoSuch h).0).0
within_of n x AskBegin h = tt
within_of n x AskBeginRead h = tt
within_of n x AskLock h = tt
within_of n x AskStore h = tt
within_of n x AskRelease h = tt
within_of n x AskCancel h = tt
within_of n x AskAbort h = tt
within_of n x AskClose h = tt

-- and its location is there, in a set or with a place left
pub limit_here : (w : Machine) (a : ℕ) (x : Actor) (n : ℕ) (q : Request) → slice_get w.actors.items a ≡ Some x → n
    ≡ length w.cells.values.items → refusal_of (shown w) a q ≡ None → location_refusal n (actor_of x) q ≡ None
limit_here w a x n q got same h =
    subst (λ (m : ℕ). location_refusal m (actor_of x) q ≡ None) (sym same)
    (subst (λ (z : machine.Actor). location_refusal (length w.cells.values.items) z q ≡ None) (actor_at_go w.actors.items a x got)
    (lawful (shown w) a q h).1)

pub read_limit : (n : ℕ) (x : machine.Actor) (l : ℕ) → location_refusal n x (AskRead l) ≡ None
    → if_new (lookup x.writes l) (lookup x.reads l) x.reads ≡ None
read_limit n x l h = (if_none (nat_lt l n) (if_new (lookup x.writes l) (lookup x.reads l) x.reads) NoSuch h).1

pub write_limit : (n : ℕ) (x : machine.Actor) (l v : ℕ) → location_refusal n x (AskWrite l v) ≡ None
    → if_new (lookup x.writes l) None x.writes ≡ None
write_limit n x l v h = (if_none (nat_lt l n && not x.declared) (if_new (lookup x.writes l) None x.writes) NoSuch h).1

-- only a transaction that is no declared reader writes
pub write_writer : (n : ℕ) (x : machine.Actor) (l v : ℕ) → location_refusal n x (AskWrite l v) ≡ None → x.declared ≡ false
write_writer n x l v h = not-true x.declared (and_parts (nat_lt l n) (not x.declared)
    (if_none (nat_lt l n && not x.declared) (if_new (lookup x.writes l) None x.writes) NoSuch h).0).1
