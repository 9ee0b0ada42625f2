-- Commits that have nothing to check, and declared readers.
use Rattle.std.proofs.Common.{◌≡◌, ◌≢◌, ℕ, ◌+◌, cond, Bool, true, false, eqb, ltb, leb, Option, Some, None, List, [], ◌∷◌, inl, inr, refl}
use Rattle.std.proofs.Common.{sym, ap, ◌∙◌, subst, arith, ne_eqb}
use Rattle.std.proofs.lemmas.Bool.{cond-false, cases_eq}
use Rattle.vlock_word.specs.declared.lock_word.LockWord.{LockWord}
use Rattle.vlock_word.specs.declared.lock_word.LockWord.TheVariants.{Free, Locked}
use Rattle.tx_sets.specs.Entries.{Entries, lookup, locations}
use Rattle.tx_machine.specs.Actor.{Place, Idle, Begin, Open, Look, Fetch, Again, Lock, Take, Check, Broken, First, Store, Release, Undo}
use Rattle.tx_machine.specs.Actor.{Leave, Close, Actor, goes, opened, has_read, clock_limit, taken}
use Rattle.tx_machine.specs.Requests.{Request, AskBegin, AskBeginRead, AskLock, AskStore, AskRelease, AskCancel, AskAbort, AskClose}
use Rattle.tx_machine.specs.Requests.{AskRead, AskWrite, read, write, lock, close, abort, ask}
use Rattle.tx_machine.specs.World.{World, Event, Ask, Step, now, put, step, happens}
use Rattle.tx_machine.proofs.Worlds.{looked, looked_again, to_lock, locked, tried, checked, first, released, undone}
use Rattle.tx_machine.proofs.Sets.{put-same, put_both}
use Rattle.tx_machine.proofs.Invariant.{HasBegun, IsKept, Inv}
use Rattle.tx_machine.proofs.AnswerBound.{step_other}

-- a commit whose clock has moved checks its read set
pub made : (s : World) (a : ℕ) → (s.actors a).place ≡ Lock [] → (s.actors a).rv ≢ s.clock → ((happens s (Step a)).actors a).place
    ≡ Check (locations (s.actors a).reads)
made s a e ne =
    let x = s.actors a in
    subst (λ (p : Place). ((step s a x p).actors a).place ≡ Check (locations x.reads)) (sym e)
    (ap (λ (y : Actor). y.place) (put-same s.actors a _)
    ∙ ap Check (cond-false (eqb (x.rv + 1) (s.clock + 1)) [] (locations x.reads)
    (ne_eqb (x.rv + 1) (s.clock + 1) (λ q. ne (omega (arith, q))))))

-- a declared reader has neither set
no_sets : (declared : Bool) (reads writes seen : Entries) → declared ≡ true → IsKept declared reads writes seen → (reads ≡ [])
    × (writes ≡ [])
no_sets true reads writes seen d kept = kept
no_sets false reads writes seen d kept = (let b : ⊥ = cc in absurd b)

pub has_no_sets : (s : World) (a : ℕ) → Inv s → (s.actors a).declared ≡ true → (s.actors a).place ≡ Open → ((s.actors a).reads ≡ [])
    × ((s.actors a).writes ≡ [])
has_no_sets s a v d e =
    let x = s.actors a in
    let ok = v.actors a in
    no_sets x.declared x.reads x.writes ok.saw.reads d (ok.kept (subst HasBegun (sym e) tt))

-- so a read begins with its first load
pub anew : (s : World) (a l : ℕ) → Inv s → (s.actors a).declared ≡ true → (s.actors a).place ≡ Open
    → ((happens s (Ask a (AskRead l))).actors a).place ≡ Look l
unfolding lookup
anew s a l v d e =
    let x = s.actors a in
    let none = has_no_sets s a v d e in
    let asked : ask x x.place (AskRead l) ≡ goes x (Look l) = ap (λ (p : Place). ask x p (AskRead l)) e
    ∙ ap (λ (w : Entries). read x l (lookup w l) (lookup x.reads l)) none.1 ∙ ap (λ (r : Entries). read x l None (lookup r l)) none.0 in
    ap (λ (y : Actor). y.place) (put-same s.actors a (ask x x.place (AskRead l)) ∙ asked)

pub no_write : (s : World) (a l v : ℕ) → (s.actors a).declared ≡ true → (s.actors a).place ≡ Open
    → (happens s (Ask a (AskWrite l v))).actors a ≡ s.actors a
no_write s a l v d e =
    let x = s.actors a in
    put-same s.actors a (ask x x.place (AskWrite l v)) ∙ ap (λ (p : Place). ask x p (AskWrite l v)) e ∙ ap (λ (b : Bool). write x b l v) d

pub no_lock : (s : World) (a : ℕ) → Inv s → (s.actors a).declared ≡ true → (s.actors a).place ≡ Open
    → (happens s (Ask a AskLock)).actors a ≡ s.actors a
no_lock s a v d e =
    let x = s.actors a in
    put-same s.actors a (ask x x.place AskLock) ∙ ap (λ (p : Place). ask x p AskLock) e
    ∙ ap (λ (w : Entries). lock x w) (has_no_sets s a v d e).1

pub begun_declared : (s : World) (a : ℕ) → (s.actors a).place ≡ Idle → ((happens s (Ask a AskBeginRead)).actors a).declared ≡ true
begun_declared s a e =
    let x = s.actors a in
    ap (λ (y : Actor). y.declared) (put-same s.actors a (ask x x.place AskBeginRead) ∙ ap (λ (p : Place). ask x p AskBeginRead) e)

-- y is declared just where x is
abbrev Like : Actor → Actor → Type 0
Like x y = y.declared ≡ x.declared

like_if : (b : Bool) (x y z : Actor) → Like x y → Like x z → Like x (cond b y z)
like_if true x y z f g = f
like_if false x y z f g = g

like_read : (x : Actor) (l : ℕ) (w r : Option ℕ) → Like x (read x l w r)
like_read x l (Some u) r = refl
like_read x l None (Some u) = refl
like_read x l None None = refl

like_write : (x : Actor) (b : Bool) (l v : ℕ) → Like x (write x b l v)
like_write x true l v = refl
like_write x false l v = refl

like_lock : (x : Actor) (w : Entries) → Like x (lock x w)
like_lock x [] = refl
like_lock x (e ∷ es) = refl

like_close : (x : Actor) (w : Entries) → Like x (close x w)
like_close x [] = refl
like_close x (e ∷ es) = refl

like_abort : (x : Actor) (w : Entries) → Like x (abort x w)
like_abort x [] = refl
like_abort x (e ∷ es) = refl

-- no request but a begin changes that
ask_like : (x : Actor) (p : Place) (request : Request) → (p ≡ Idle → ⊥) → Like x (ask x p request)
ask_like x Idle AskBegin ne = absurd (ne refl)
ask_like x Idle AskBeginRead ne = absurd (ne refl)
ask_like x Open (AskRead l) ne = like_read x l (lookup x.writes l) (lookup x.reads l)
ask_like x Open (AskWrite l v) ne = like_write x x.declared l v
ask_like x Open AskLock ne = like_lock x x.writes
ask_like x Open AskClose ne = like_close x x.writes
ask_like x Open AskAbort ne = refl
ask_like x (Look l) AskAbort ne = refl
ask_like x (Fetch l k) AskAbort ne = refl
ask_like x (Again l k v) AskAbort ne = refl
ask_like x Close AskAbort ne = refl
ask_like x Begin AskAbort ne = refl
ask_like x (Lock ls) AskCancel ne = refl
ask_like x (Take l k ls) AskCancel ne = refl
ask_like x (Check ls) AskCancel ne = refl
ask_like x Broken AskCancel ne = refl
ask_like x (Check []) AskStore ne = refl
ask_like x (Store []) AskRelease ne = refl
ask_like x Undo AskAbort ne = like_abort x x.held
ask_like x p request ne = refl

like_put : (x : Actor) (actors : ℕ → Actor) (a : ℕ) (y : Actor) → Like x y → Like x (put actors a y a)
like_put x actors a y h = subst (Like x) (sym (put-same actors a y)) h

like_world : (x : Actor) (b : Bool) (s t : World) (a : ℕ) → Like x (s.actors a) → Like x (t.actors a) → Like x ((cond b s t).actors a)
like_world x true s t a f g = f
like_world x false s t a f g = g

looked_like : (s : World) (a : ℕ) (x : Actor) (l : ℕ) (w : LockWord) → Like x ((looked s a x l w).actors a)
looked_like s a x l (Free k) = like_put x s.actors a _ (like_if (leb k x.rv) x (goes x (Fetch l k)) (goes x Undo) refl refl)
looked_like s a x l (Locked k) = like_put x s.actors a (goes x Undo) refl

again_like : (s : World) (a : ℕ) (x : Actor) (l k v : ℕ) (w : LockWord) → Like x ((looked_again s a x l k v w).actors a)
again_like s a x l k v (Free j) = like_put x s.actors a _ (like_if (eqb j k) x (has_read x l v) (goes x Undo) refl refl)
again_like s a x l k v (Locked j) = like_put x s.actors a (goes x Undo) refl

to_lock_like : (s : World) (a : ℕ) (x : Actor) (l : ℕ) (ls : List ℕ) (w : LockWord) → Like x ((to_lock s a x l ls w).actors a)
to_lock_like s a x l ls (Free k) = like_put x s.actors a (goes x (Take l k ls)) refl
to_lock_like s a x l ls (Locked k) = like_put x s.actors a (goes x Broken) refl

take_like : (s : World) (a : ℕ) (x : Actor) (l k : ℕ) (ls : List ℕ) (w : LockWord) → Like x ((tried s a x l k ls w).actors a)
take_like s a x l k ls (Free j) = like_world x (eqb j k) (locked s a x l k ls) (now s a (goes x Broken)) a
    (like_put x s.actors a (taken x l k ls) refl) (like_put x s.actors a (goes x Broken) refl)
take_like s a x l k ls (Locked j) = like_put x s.actors a (goes x Broken) refl

check_like : (s : World) (a : ℕ) (x : Actor) (l : ℕ) (ls : List ℕ) (w : LockWord) (own : Option ℕ)
    → Like x ((checked s a x l ls w own).actors a)
check_like s a x l ls (Free k) own = like_put x s.actors a _ (like_if (leb k x.rv) x (goes x (Check ls)) (goes x Broken) refl refl)
check_like s a x l ls (Locked k) (Some old) = like_put x s.actors a _ (like_if (leb k x.rv) x (goes x (Check ls)) (goes x Broken) refl refl)
check_like s a x l ls (Locked k) None = like_put x s.actors a (goes x Broken) refl

first_like : (s : World) (a : ℕ) (x : Actor) (w : Entries) → Like x (s.actors a) → Like x ((first s a x w).actors a)
first_like s a x [] h = h
first_like s a x (e ∷ es) h = like_put x s.actors a (goes x (Store (locations es))) refl

released_like : (s : World) (a : ℕ) (x : Actor) (h : Entries) → Like x (s.actors a) → Like x ((released s a x h).actors a)
released_like s a x [] same = same
released_like s a x (e ∷ es) same = like_put x s.actors a _ refl

undone_like : (s : World) (a : ℕ) (x : Actor) (h : Entries) → Like x (s.actors a) → Like x ((undone s a x h).actors a)
undone_like s a x [] same = same
undone_like s a x (e ∷ es) same = like_put x s.actors a _ refl

-- and no step
step_like : (s : World) (a : ℕ) (x : Actor) (p : Place) → Like x (s.actors a) → Like x ((step s a x p).actors a)
step_like s a x Idle h = h
step_like s a x Begin h = like_put x s.actors a _ (like_if (ltb s.clock clock_limit) x (opened x.declared s.clock) (goes x Idle) refl refl)
step_like s a x Open h = h
step_like s a x (Look l) h = looked_like s a x l (s.locks l)
step_like s a x (Fetch l k) h = like_put x s.actors a (goes x (Again l k (s.values l))) refl
step_like s a x (Again l k v) h = again_like s a x l k v (s.locks l)
step_like s a x (Lock []) h = like_put x s.actors a _ refl
step_like s a x (Lock (l ∷ ls)) h = to_lock_like s a x l ls (s.locks l)
step_like s a x (Take l k ls) h = take_like s a x l k ls (s.locks l)
step_like s a x (Check []) h = h
step_like s a x (Check (l ∷ ls)) h = check_like s a x l ls (s.locks l) (lookup x.writes l)
step_like s a x Broken h = h
step_like s a x First h = first_like s a x x.writes h
step_like s a x (Store []) h = h
step_like s a x (Store (l ∷ ls)) h = like_put x s.actors a (goes x (Store ls)) refl
step_like s a x Release h = released_like s a x x.held h
step_like s a x Undo h = undone_like s a x x.held h
step_like s a x Leave h = like_put x s.actors a (goes x Idle) refl
step_like s a x Close h = like_put x s.actors a (goes x Idle) refl

pub stays_declared : (s : World) (a : ℕ) (event : Event) → (s.actors a).declared ≡ true → ((s.actors a).place ≡ Idle → ⊥)
    → ((happens s event).actors a).declared ≡ true
stays_declared s a (Ask b request) d ne =
    put_both (λ (y : Actor). y.declared ≡ true) s.actors b (ask (s.actors b) (s.actors b).place request) a
    (λ q. ask_like (s.actors b) (s.actors b).place request (subst (λ (n : ℕ). (s.actors n).place ≡ Idle → ⊥) q ne)
    ∙ subst (λ (n : ℕ). (s.actors n).declared ≡ true) q d)
    (λ _. d)
stays_declared s a (Step b) d ne =
    elim (cases_eq a b) [
      | inl q ↦ subst (λ (n : ℕ). ((happens s (Step n)).actors a).declared ≡ true) q
          (step_like s a (s.actors a) (s.actors a).place refl ∙ d)
      | inr other ↦ ap (λ (y : Actor). y.declared) (step_other s b a other) ∙ d
    ]
