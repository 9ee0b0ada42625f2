-- A request that is taken and not answered at once leaves a step to do. A commit that stores or releases has something written and
-- something held by the invariant; the other requests go to a place where a step is next, or are answered, or leave their actor as it is.
use Rattle.std.proofs.Common.{◌≡◌, ◌≢◌, ℕ, ◌<◌, Bool, true, false, Option, Some, None, [], ◌∷◌, ◌⊎◌, inl, inr, length, refl, sym, ap, ◌∙◌}
use Rattle.std.proofs.Common.{subst, arith}
use Rattle.tx_sets.specs.Entries.{Entries, lookup}
use Rattle.tx_machine.specs.Actor.{Place, Idle, Begin, Open, Look, Fetch, Again, Lock, Take, Check, Broken, Store, Undo, Close, Actor}
use Rattle.tx_machine.specs.Actor.{goes}
use Rattle.tx_machine.specs.Requests.{Request, AskBegin, AskBeginRead, AskLock, AskStore, AskRelease, AskCancel, AskAbort, AskClose}
use Rattle.tx_machine.specs.Requests.{AskRead, AskWrite, read, write, lock, close, abort, ask}
use Rattle.tx_machine.specs.World.{World, Ask, happens}
use Rattle.tx_machine.specs.Notices.{Quiet, Cancelled, read_reply, write_reply, when_none_left, reply}
use Rattle.tx_machine.specs.Progress.{steps_left}
use Rattle.tx_machine.proofs.Sets.{put-same}
use Rattle.tx_machine.proofs.Invariant.{IsSomeEntry, PlaceOk, Inv}

-- y is x, or has a step to do
abbrev Due : Actor → Actor → Type 0
Due x y = (y ≡ x) ⊎ (0 < steps_left y y.place)

read_due : (x : Actor) (l : ℕ) (w r : Option ℕ) → read_reply w r ≡ Quiet → Due x (read x l w r)
read_due x l (Some v) r q = (let b : ⊥ = cc in absurd b)
read_due x l None (Some v) q = (let b : ⊥ = cc in absurd b)
read_due x l None None q = inr (omega arith)

write_due : (x : Actor) (declared : Bool) (l v : ℕ) → write_reply declared ≡ Quiet → Due x (write x declared l v)
write_due x true l v q = inl refl
write_due x false l v q = (let b : ⊥ = cc in absurd b)

lock_due : (x : Actor) (w : Entries) → Due x (lock x w)
lock_due x [] = inl refl
lock_due x (e ∷ es) = inr (omega arith)

close_due : (x : Actor) (w : Entries) → Due x (close x w)
close_due x [] = inr (omega arith)
close_due x (e ∷ es) = inl refl

abort_due : (x : Actor) (h : Entries) → Due x (abort x h)
abort_due x [] = inr (omega arith)
abort_due x (e ∷ es) = inl refl

some_left : (es : Entries) → IsSomeEntry es → 0 < length es
some_left [] some = absurd some
some_left (e ∷ es) some = omega arith

-- a cancel that is not answered has a lock to give back
cancel_due : (x : Actor) (h : Entries) → x.held ≡ h → when_none_left h Cancelled ≡ Quiet → Due x (goes x Undo)
cancel_due x [] e q = (let b : ⊥ = cc in absurd b)
cancel_due x (f ∷ fs) e q = inr (let n = ap length e in omega (arith, n))

ask_due : (s : World) (x : Actor) (p : Place) (request : Request) → PlaceOk s x p → reply x p request ≡ Quiet → Due x (ask x p request)
ask_due s x Idle AskBegin pl q = inr (omega arith)
ask_due s x Idle AskBeginRead pl q = inr (omega arith)
ask_due s x Open (AskRead l) pl q = read_due x l (lookup x.writes l) (lookup x.reads l) q
ask_due s x Open (AskWrite l v) pl q = write_due x x.declared l v q
ask_due s x Open AskLock pl q = lock_due x x.writes
ask_due s x Open AskClose pl q = close_due x x.writes
ask_due s x Open AskAbort pl q = inr (omega arith)
ask_due s x (Look l) AskAbort pl q = inr (omega arith)
ask_due s x (Fetch l k) AskAbort pl q = inr (omega arith)
ask_due s x (Again l k v) AskAbort pl q = inr (omega arith)
ask_due s x Close AskAbort pl q = inr (omega arith)
ask_due s x Begin AskAbort pl q = (let b : ⊥ = cc in absurd b)
ask_due s x (Lock ls) AskCancel pl q = cancel_due x x.held refl q
ask_due s x (Take l k ls) AskCancel pl q = cancel_due x x.held refl q
ask_due s x (Check ls) AskCancel pl q = cancel_due x x.held refl q
ask_due s x Broken AskCancel pl q = cancel_due x x.held refl q
ask_due s x (Check []) AskStore pl q = inr (some_left x.writes (pl.0).some)
ask_due s x (Store []) AskRelease pl q = inr (some_left x.held (pl.0).some)
ask_due s x Undo AskAbort pl q = abort_due x x.held
ask_due s x p request pl q = inl refl

pub leaves_due : (s : World) (a : ℕ) (request : Request) → Inv s → (happens s (Ask a request)).actors a ≢ s.actors a
    → reply (s.actors a) (s.actors a).place request ≡ Quiet
    → 0 < steps_left ((happens s (Ask a request)).actors a) ((happens s (Ask a request)).actors a).place
leaves_due s a request v changed quiet =
    let x = s.actors a in
    let y = ask x x.place request in
    let same = put-same s.actors a y in
    elim (ask_due s x x.place request (v.actors a).place quiet) [
      | inl e ↦ absurd (changed (same ∙ e))
      | inr h ↦ subst (λ (z : Actor). 0 < steps_left z z.place) (sym same) h
    ]
