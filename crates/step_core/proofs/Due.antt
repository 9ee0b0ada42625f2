-- A request that is not refused and not answered at once leaves its actor a step to do. What the phase allows goes to a place where a step
-- is next, or is answered; so the cases are those of the table of phases.
use Rattle.std.proofs.Common.{◌≡◌, ℕ, ◌<◌, Bool, true, false, Option, Some, None, Result, Ok, Err, [], ◌∷◌, length, refl, sym, ap, ◌∙◌}
use Rattle.std.proofs.Common.{subst, arith, true≢false}
use Rattle.std.specs.Prelude.{IfOk}
use Rattle.tx_sets.specs.Entries.{Entries, lookup}
use Rattle.tx_machine.specs.Actor.{Place, Idle, Begin, Open, Look, Fetch, Again, Lock, Take, Check, Broken, Store, Undo, Close, Actor}
use Rattle.tx_machine.specs.Actor.{goes}
use Rattle.tx_machine.specs.Requests.{Request, AskBegin, AskBeginRead, AskLock, AskStore, AskRelease, AskCancel, AskAbort, AskClose}
use Rattle.tx_machine.specs.Requests.{AskRead, AskWrite, read, write, lock, close, abort, ask}
use Rattle.tx_machine.specs.World.{World}
use Rattle.tx_machine.specs.Notices.{Notice, Quiet, NoTransaction, Begun, Number, LockedAt, Written, Stored, Released, Cancelled, Closed}
use Rattle.tx_machine.specs.Notices.{Moved, Busy, Invalid, Exhausted, read_reply, write_reply, when_none_left, reply}
use Rattle.tx_machine.specs.Progress.{steps_left}
use Rattle.tx_machine.proofs.Sets.{put-same}
use Rattle.tx_machine.proofs.Invariant.{IsSomeEntry, PlaceOk, Inv}
use Rattle.tx_machine.proofs.Schedules.{reached}
use Rattle.step_core.specs.Answers.{result_of}
use Rattle.step_core.specs.Phases.{open_phase, undo_phase, phase_of, allows}
use Rattle.step_core.specs.Shown.{Shown, actor_in, Asks, Reached, refusal_of}
use Rattle.step_core.specs.Opaque.{world_of, steps_due}
use Rattle.step_core.specs.declared.answer.WordAnswer.{WordAnswer}
use Rattle.step_core.specs.declared.answer.WordRefusal.{WordRefusal}
use Rattle.step_core.proofs.Phases.{lawful, write_writer}

no : {A : Type 0} → false ≡ true → A
no h = absurd (true≢false (sym h))

-- y has a step to do
abbrev IsDue : Actor → Type 0
IsDue y = 0 < steps_left y y.place

read_due : (x : Actor) (l : ℕ) (w r : Option ℕ) → read_reply w r ≡ Quiet → IsDue (read x l w r)
read_due x l (Some v) r q = (let b : ⊥ = cc in absurd b)
read_due x l None (Some v) q = (let b : ⊥ = cc in absurd b)
read_due x l None None q = omega arith

write_due : (x : Actor) (declared : Bool) (l v : ℕ) → declared ≡ false → write_reply declared ≡ Quiet → IsDue (write x declared l v)
write_due x true l v d q = no (sym d)
write_due x false l v d q = (let b : ⊥ = cc in absurd b)

lock_due : (x : Actor) (w : Entries) → allows (open_phase w) AskLock ≡ true → IsDue (lock x w)
lock_due x [] h = no h
lock_due x (e ∷ es) h = omega arith

close_due : (x : Actor) (w : Entries) → allows (open_phase w) AskClose ≡ true → IsDue (close x w)
close_due x [] h = omega arith
close_due x (e ∷ es) h = no h

abort_due : (x : Actor) (held : Entries) → allows (undo_phase held) AskAbort ≡ true → IsDue (abort x held)
abort_due x [] h = omega arith
abort_due x (e ∷ es) h = no h

some_left : (es : Entries) → IsSomeEntry es → 0 < length es
some_left [] some = absurd some
some_left (e ∷ es) some = omega arith

-- a cancel that is not answered has a lock to give back
cancel_due : (x : Actor) (held : Entries) → x.held ≡ held → when_none_left held Cancelled ≡ Quiet → IsDue (goes x Undo)
cancel_due x [] e q = (let b : ⊥ = cc in absurd b)
cancel_due x (f ∷ fs) e q = (let n = ap length e in omega (arith, n))

-- what may be asked of an open transaction, and of one that has ended
abbrev IsOfOpen : Request → Type 0
IsOfOpen (AskRead l) = Unit {0}
IsOfOpen (AskWrite l v) = Unit {0}
IsOfOpen AskLock = Unit {0}
IsOfOpen AskClose = Unit {0}
IsOfOpen AskAbort = Unit {0}
IsOfOpen q = ⊥

of_open : (w : Entries) (q : Request) → allows (open_phase w) q ≡ true → IsOfOpen q
of_open w (AskRead l) h = tt
of_open w (AskWrite l v) h = tt
of_open w AskLock h = tt
of_open w AskClose h = tt
of_open w AskAbort h = tt
of_open [] q h = no h
of_open (e ∷ es) q h = no h

abbrev IsOfUndo : Request → Type 0
IsOfUndo AskAbort = Unit {0}
IsOfUndo q = ⊥

of_undo : (held : Entries) (q : Request) → allows (undo_phase held) q ≡ true → IsOfUndo q
of_undo held AskAbort h = tt
of_undo [] q h = no h
of_undo (e ∷ es) q h = no h

abbrev Writes : Request → Type 0
Writes (AskWrite l v) = Unit {0}
Writes q = ⊥

ask_due : (s : World) (x : Actor) (p : Place) (request : Request) → PlaceOk s x p → allows (phase_of x p) request ≡ true
    → (Writes request → x.declared ≡ false)
    → reply x p request ≡ Quiet → IsDue (ask x p request)
ask_due s x Idle AskBegin pl h d q = omega arith
ask_due s x Idle AskBeginRead pl h d q = omega arith
ask_due s x Open (AskRead l) pl h d q = read_due x l (lookup x.writes l) (lookup x.reads l) q
ask_due s x Open (AskWrite l v) pl h d q = write_due x x.declared l v (d tt) q
ask_due s x Open AskLock pl h d q = lock_due x x.writes h
ask_due s x Open AskClose pl h d q = close_due x x.writes h
ask_due s x Open AskAbort pl h d q = omega arith
ask_due s x Open request pl h d q = absurd (of_open x.writes request h)
ask_due s x (Look l) AskAbort pl h d q = omega arith
ask_due s x (Fetch l k) AskAbort pl h d q = omega arith
ask_due s x (Again l k v) AskAbort pl h d q = omega arith
ask_due s x Close AskAbort pl h d q = omega arith
ask_due s x Begin AskAbort pl h d q = (let b : ⊥ = cc in absurd b)
ask_due s x (Lock ls) AskCancel pl h d q = cancel_due x x.held refl q
ask_due s x (Take l k ls) AskCancel pl h d q = cancel_due x x.held refl q
ask_due s x (Check ls) AskCancel pl h d q = cancel_due x x.held refl q
ask_due s x Broken AskCancel pl h d q = cancel_due x x.held refl q
ask_due s x (Check []) AskStore pl h d q = some_left x.writes (pl.0).some
ask_due s x (Check []) request pl h d q = no h
ask_due s x (Check (l ∷ ls)) request pl h d q = no h
ask_due s x (Store []) AskRelease pl h d q = some_left x.held (pl.0).some
ask_due s x (Store []) request pl h d q = no h
ask_due s x (Store (l ∷ ls)) request pl h d q = no h
ask_due s x Undo AskAbort pl h d q = abort_due x x.held h
ask_due s x Undo request pl h d q = absurd (of_undo x.held request h)
ask_due s x p request pl h d q = no h

-- only the quiet notice answers nothing
quiet_of : (n : Notice) → Ok None ≡ result_of n → n ≡ Quiet
quiet_of Quiet e = refl
quiet_of NoTransaction e = (let b : ⊥ = cc in absurd b)
quiet_of (Begun rv) e = (let b : ⊥ = cc in absurd b)
quiet_of (Number v) e = (let b : ⊥ = cc in absurd b)
quiet_of Written e = (let b : ⊥ = cc in absurd b)
quiet_of (LockedAt wv) e = (let b : ⊥ = cc in absurd b)
quiet_of Stored e = (let b : ⊥ = cc in absurd b)
quiet_of Released e = (let b : ⊥ = cc in absurd b)
quiet_of Cancelled e = (let b : ⊥ = cc in absurd b)
quiet_of Closed e = (let b : ⊥ = cc in absurd b)
quiet_of (Moved l w) e = (let b : ⊥ = cc in absurd b)
quiet_of (Busy l w) e = (let b : ⊥ = cc in absurd b)
quiet_of (Invalid l w) e = (let b : ⊥ = cc in absurd b)
quiet_of (Exhausted c) e = (let b : ⊥ = cc in absurd b)

writer_asks : (v : Shown) (a : ℕ) (q : Request) → refusal_of v a q ≡ None → Writes q → (actor_in v a).declared ≡ false
writer_asks v a (AskWrite l u) h w = write_writer (length v.values) (actor_in v a) l u (lawful v a (AskWrite l u) h).1
writer_asks v a q h w = absurd w

pub leaves_due : (v u : Shown) (a : ℕ) (q : Request) (answer : Option WordAnswer) → Reached v → refusal_of v a q ≡ None
    → Asks v a q u answer
    → answer ≡ None → 0 < steps_due u a
leaves_due v u a q answer r allowed asks none =
    let s : World = world_of v r in
    let i : Inv s = reached r.clock r.opening r.events in
    let x = s.actors a in
    let is : x ≡ actor_in v a = r.shows.actors a in
    let told = asks s r.shows in
    let quiet : reply x x.place q ≡ Quiet = quiet_of (reply x x.place q) (sym (ap Ok none) ∙ told.1) in
    let here : allows (phase_of x x.place) q ≡ true = subst (λ (y : Actor). allows (phase_of y y.place) q ≡ true) (sym is)
    (lawful v a q allowed).0 in
    let plain : Writes q → x.declared ≡ false = λ w. ap (λ (y : Actor). y.declared) is ∙ writer_asks v a q allowed w in
    subst IsDue (sym (put-same s.actors a (ask x x.place q)) ∙ (told.0).actors a)
    (ask_due s x x.place q (i.actors a).place here plain quiet)

not_some : {A : Type 0} → (o : Option A) → ((x : A) → o ≡ Some x → ⊥) → o ≡ None
not_some None f = refl
not_some (Some x) f = absurd (f x refl)

pub due_of : (v u : Shown) (a : ℕ) (q : Request) (r : Result (Option WordAnswer) WordRefusal) (named : Option WordRefusal) → Reached v
    → named ≡ refusal_of v a q
    → ((x : WordRefusal) → named ≡ Some x → ⊥) → IfOk r (λ answer. Asks v a q u answer)
    → IfOk r (λ answer. answer ≡ None → 0 < steps_due u a)
due_of v u a q (Ok answer) named r is other asks = λ none. leaves_due v u a q answer r (sym is ∙ not_some named other) asks none
due_of v u a q (Err e) named r is other asks = tt
