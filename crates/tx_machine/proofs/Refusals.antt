-- Each refusal is true where it is answered, and a refused transaction only gives its locks back and ends.
use Rattle.std.proofs.Common.{◌≡◌, ℕ, ◌+◌, ◌<◌, Bool, true, false, eqb, ltb, leb, Option, Some, None, List, [], ◌∷◌, ◌⊎◌, inl, inr, refl}
use Rattle.std.proofs.Common.{sym, ap, ◌∙◌, subst, arith, ltb-false, leb-false}
use Rattle.std.specs.Prelude.{if◌then◌else◌}
use Rattle.std.proofs.lemmas.Bool.{eqb-false, cond_both, cases_eq}
use Rattle.vlock_word.specs.declared.lock_word.LockWord.{LockWord}
use Rattle.vlock_word.specs.declared.lock_word.LockWord.TheVariants.{Free, Locked}
use Rattle.vlock_word.specs.LockWord.{version_of, is_locked_word, bits}
use Rattle.tx_sets.specs.Entries.{Entries, lookup}
use Rattle.tx_machine.specs.Actor.{Place, Idle, Begin, Open, Look, Fetch, Again, Lock, Take, Check, Broken, First, Store, Release, Undo}
use Rattle.tx_machine.specs.Actor.{Leave, Close, Actor, goes, clock_limit, to_check}
use Rattle.tx_machine.specs.Requests.{Request, AskBegin, AskBeginRead, AskLock, AskStore, AskRelease, AskCancel, AskAbort, AskClose}
use Rattle.tx_machine.specs.Requests.{AskRead, AskWrite, abort, ask}
use Rattle.tx_machine.specs.World.{put, World, Event, Ask, Step, now, step, happens}
use Rattle.tx_machine.specs.Notices.{Notice, Quiet, Begun, Exhausted, Moved, Busy, Invalid, Number, LockedAt, Stored, Released, Cancelled}
use Rattle.tx_machine.specs.Notices.{IsConflict, notice, look_notice, again_notice, lock_notice, take_notice, check_notice}
use Rattle.tx_machine.specs.Notices.{when_none_left, last_notice}
use Rattle.tx_machine.specs.Refusals.{IsTrue, NamesPlace, IsRefused, IsEnding, IsCommitting}
use Rattle.tx_machine.proofs.Worlds.{looked, looked_again, to_lock, tried, locked, checked, undone}
use Rattle.tx_machine.proofs.Sets.{put-same, put_both}
use Rattle.tx_machine.proofs.Invariant.{IsSomeEntry, PlaceOk}
use Rattle.tx_machine.proofs.Quiet.{none_if}
use Rattle.tx_machine.proofs.AnswerBound.{step_other}

-- each refusal is true
begin_true : (s : World) (x : Actor) → IsTrue s x Begin (if ltb s.clock clock_limit then Begun s.clock else Exhausted s.clock)
begin_true s x = cond_both (ltb s.clock clock_limit) (Begun s.clock) (Exhausted s.clock) (IsTrue s x Begin) (λ _. tt)
    (λ f. (refl, (let h = ltb-false s.clock clock_limit f in omega (arith, h)), refl))

look_true : (s : World) (x : Actor) (l : ℕ) (w : LockWord) → s.locks l ≡ w → IsTrue s x (Look l) (look_notice x.rv l w)
look_true s x l (Free k) e = cond_both (leb k x.rv) Quiet (Moved l (bits (Free k))) (IsTrue s x (Look l)) (λ _. tt)
    (λ f. (sym (ap bits e), inr (subst (λ (w : LockWord). x.rv < version_of w) (sym e) (let h = leb-false k x.rv f in omega (arith, h)))))
look_true s x l (Locked k) e = (sym (ap bits e), inl (ap is_locked_word e))

again_true : (s : World) (x : Actor) (l k v : ℕ) (w : LockWord) → s.locks l ≡ w → IsTrue s x (Again l k v) (again_notice l k v w)
again_true s x l k v (Free j) e = cond_both (eqb j k) (Number v) (Moved l (bits (Free j))) (IsTrue s x (Again l k v)) (λ _. tt)
    (λ f. (sym (ap bits e), λ q. eqb-false j k f (let z : Free j ≡ Free k = sym e ∙ q in ap version_of z)))
again_true s x l k v (Locked j) e = (sym (ap bits e), λ q. (let z : Locked j ≡ Free k = sym e ∙ q in let b : ⊥ = cc in b))

lock_true : (s : World) (x : Actor) (l : ℕ) (ls : List ℕ) (w : LockWord) → s.locks l ≡ w → IsTrue s x (Lock (l ∷ ls)) (lock_notice l w)
lock_true s x l ls (Free k) e = tt
lock_true s x l ls (Locked k) e = (sym (ap bits e), ap is_locked_word e)

take_true : (s : World) (x : Actor) (l k : ℕ) (ls : List ℕ) (w : LockWord) → s.locks l ≡ w → IsTrue s x (Take l k ls) (take_notice l k w)
take_true s x l k ls (Free j) e = cond_both (eqb j k) Quiet (Busy l (bits (Free j))) (IsTrue s x (Take l k ls)) (λ _. tt)
    (λ f. (sym (ap bits e), λ q. eqb-false j k f (let z : Free j ≡ Free k = sym e ∙ q in ap version_of z)))
take_true s x l k ls (Locked j) e = (sym (ap bits e), λ q. (let z : Locked j ≡ Free k = sym e ∙ q in let b : ⊥ = cc in b))

none_left : {A : Type 0} → (P : Notice → Type 0) (xs : List A) (n : Notice) → P n → P Quiet → P (when_none_left xs n)
none_left P [] n h q = h
none_left P (x ∷ xs) n h q = q

check_true : (s : World) (x : Actor) (l : ℕ) (ls : List ℕ) (w : LockWord) (own : Option ℕ) → s.locks l ≡ w
    → (own ≡ None → lookup x.held l ≡ None) → IsTrue s x (Check (l ∷ ls)) (check_notice x.rv x.wv l ls w own)
check_true s x l ls (Free k) own e mine = cond_both (leb k x.rv) (when_none_left ls (LockedAt x.wv)) (Invalid l (bits (Free k)))
    (IsTrue s x (Check (l ∷ ls)))
    (λ _. none_left (IsTrue s x (Check (l ∷ ls))) ls (LockedAt x.wv) tt tt)
    (λ f. (sym (ap bits e), inl (subst (λ (w : LockWord). x.rv < version_of w) (sym e) (let h = leb-false k x.rv f in omega (arith, h)))))
check_true s x l ls (Locked k) (Some v) e mine = cond_both (leb k x.rv) (when_none_left ls (LockedAt x.wv)) (Invalid l (bits (Locked k)))
    (IsTrue s x (Check (l ∷ ls)))
    (λ _. none_left (IsTrue s x (Check (l ∷ ls))) ls (LockedAt x.wv) tt tt)
    (λ f. (sym (ap bits e), inl (subst (λ (w : LockWord). x.rv < version_of w) (sym e) (let h = leb-false k x.rv f in omega (arith, h)))))
check_true s x l ls (Locked k) None e mine = (sym (ap bits e), inr (ap is_locked_word e, mine refl))

last_true : (s : World) (x : Actor) (p : Place) (es : Entries) (n : Notice) → IsTrue s x p n → IsTrue s x p (last_notice es n)
last_true s x p [] n h = tt
last_true s x p (e ∷ es) n h = none_left (IsTrue s x p) es n h tt

pub notice_true : (s : World) (x : Actor) (p : Place) → PlaceOk s x p → IsTrue s x p (notice s x p)
notice_true s x Idle pl = tt
notice_true s x Begin pl = begin_true s x
notice_true s x Open pl = tt
notice_true s x (Look l) pl = look_true s x l (s.locks l) refl
notice_true s x (Fetch l k) pl = tt
notice_true s x (Again l k v) pl = again_true s x l k v (s.locks l) refl
notice_true s x (Lock []) pl = none_left (IsTrue s x (Lock [])) (to_check x (s.clock + 1)) (LockedAt (s.clock + 1)) tt tt
notice_true s x (Lock (l ∷ ls)) pl = lock_true s x l ls (s.locks l) refl
notice_true s x (Take l k ls) pl = take_true s x l k ls (s.locks l) refl
notice_true s x (Check []) pl = tt
notice_true s x (Check (l ∷ ls)) pl = check_true s x l ls (s.locks l) (lookup x.writes l) refl
    (λ none. none_if (lookup x.held l) (λ j h. let w = (pl.0).written l j h in let z : Some w.0 ≡ None = sym w.1
    ∙ none in absurd (let b : ⊥ = cc in b)))
notice_true s x Broken pl = tt
notice_true s x First pl = last_true s x First x.writes Stored tt
notice_true s x (Store []) pl = tt
notice_true s x (Store (l ∷ ls)) pl = none_left (IsTrue s x (Store (l ∷ ls))) ls Stored tt tt
notice_true s x Release pl = last_true s x Release x.held Released tt
notice_true s x Undo pl = last_true s x Undo x.held Cancelled tt
notice_true s x Leave pl = tt
notice_true s x Close pl = tt

-- and names the place
last_names : (p : Place) (es : Entries) (n : Notice) → NamesPlace p n → NamesPlace p (last_notice es n)
last_names p [] n h = tt
last_names p (e ∷ es) n h = none_left (NamesPlace p) es n h tt

look_names : (rv l : ℕ) (w : LockWord) → NamesPlace (Look l) (look_notice rv l w)
look_names rv l (Free k) = cond_both (leb k rv) Quiet (Moved l (bits (Free k))) (NamesPlace (Look l)) (λ _. tt) (λ _. refl)
look_names rv l (Locked k) = refl

again_names : (l k v : ℕ) (w : LockWord) → NamesPlace (Again l k v) (again_notice l k v w)
again_names l k v (Free j) = cond_both (eqb j k) (Number v) (Moved l (bits (Free j))) (NamesPlace (Again l k v)) (λ _. tt) (λ _. refl)
again_names l k v (Locked j) = refl

lock_names : (l : ℕ) (ls : List ℕ) (w : LockWord) → NamesPlace (Lock (l ∷ ls)) (lock_notice l w)
lock_names l ls (Free k) = tt
lock_names l ls (Locked k) = refl

take_names : (l k : ℕ) (ls : List ℕ) (w : LockWord) → NamesPlace (Take l k ls) (take_notice l k w)
take_names l k ls (Free j) = cond_both (eqb j k) Quiet (Busy l (bits (Free j))) (NamesPlace (Take l k ls)) (λ _. tt) (λ _. refl)
take_names l k ls (Locked j) = refl

check_names : (rv wv l : ℕ) (ls : List ℕ) (w : LockWord) (own : Option ℕ) → NamesPlace (Check (l ∷ ls)) (check_notice rv wv l ls w own)
check_names rv wv l ls (Free k) own =
    cond_both (leb k rv) (when_none_left ls (LockedAt wv)) (Invalid l (bits (Free k))) (NamesPlace (Check (l ∷ ls)))
    (λ _. none_left (NamesPlace (Check (l ∷ ls))) ls (LockedAt wv) tt tt) (λ _. refl)
check_names rv wv l ls (Locked k) (Some v) =
    cond_both (leb k rv) (when_none_left ls (LockedAt wv)) (Invalid l (bits (Locked k))) (NamesPlace (Check (l ∷ ls)))
    (λ _. none_left (NamesPlace (Check (l ∷ ls))) ls (LockedAt wv) tt tt) (λ _. refl)
check_names rv wv l ls (Locked k) None = refl

begin_names : (clock : ℕ) → NamesPlace Begin (if ltb clock clock_limit then Begun clock else Exhausted clock)
begin_names clock = cond_both (ltb clock clock_limit) (Begun clock) (Exhausted clock) (NamesPlace Begin) (λ _. tt) (λ _. tt)

pub notice_names : (s : World) (x : Actor) (p : Place) → NamesPlace p (notice s x p)
notice_names s x Idle = tt
notice_names s x Begin = begin_names s.clock
notice_names s x Open = tt
notice_names s x (Look l) = look_names x.rv l (s.locks l)
notice_names s x (Fetch l k) = tt
notice_names s x (Again l k v) = again_names l k v (s.locks l)
notice_names s x (Lock []) = none_left (NamesPlace (Lock [])) (to_check x (s.clock + 1)) (LockedAt (s.clock + 1)) tt tt
notice_names s x (Lock (l ∷ ls)) = lock_names l ls (s.locks l)
notice_names s x (Take l k ls) = take_names l k ls (s.locks l)
notice_names s x (Check []) = tt
notice_names s x (Check (l ∷ ls)) = check_names x.rv x.wv l ls (s.locks l) (lookup x.writes l)
notice_names s x Broken = tt
notice_names s x First = last_names First x.writes Stored tt
notice_names s x (Store []) = tt
notice_names s x (Store (l ∷ ls)) = none_left (NamesPlace (Store (l ∷ ls))) ls Stored tt tt
notice_names s x Release = last_names Release x.held Released tt
notice_names s x Undo = last_names Undo x.held Cancelled tt
notice_names s x Leave = tt
notice_names s x Close = tt

-- no step of a commit is refused
last_kept : (es : Entries) (n : Notice) → IsSomeEntry es → (IsRefused n → ⊥) → IsRefused (last_notice es n) → ⊥
last_kept [] n some ok h = some
last_kept (e ∷ es) n some ok h = none_left (λ m. IsRefused m → ⊥) es n ok (λ b. b) h

pub commit_kept : (s : World) (x : Actor) (p : Place) → PlaceOk s x p → IsCommitting p → IsRefused (notice s x p) → ⊥
commit_kept s x First pl c h = last_kept x.writes Stored (pl.0).some (λ b. b) h
commit_kept s x (Store (l ∷ ls)) pl c h = none_left (λ m. IsRefused m → ⊥) ls Stored (λ b. b) (λ b. b) h
commit_kept s x Release pl c h = last_kept x.held Released pl.some (λ b. b) h
commit_kept s x (Store []) pl c h = c
commit_kept s x Idle pl c h = c
commit_kept s x Begin pl c h = c
commit_kept s x Open pl c h = c
commit_kept s x (Look l) pl c h = c
commit_kept s x (Fetch l k) pl c h = c
commit_kept s x (Again l k v) pl c h = c
commit_kept s x (Lock ls) pl c h = c
commit_kept s x (Take l k ls) pl c h = c
commit_kept s x (Check ls) pl c h = c
commit_kept s x Broken pl c h = c
commit_kept s x Undo pl c h = c
commit_kept s x Leave pl c h = c
commit_kept s x Close pl c h = c

-- a conflict ends its transaction
abbrev Ends : Notice → Actor → Type 0
Ends n y = IsConflict n → IsEnding y.place

ends_put : (n : Notice) (actors : ℕ → Actor) (a : ℕ) (y : Actor) → Ends n y → Ends n (put actors a y a)
ends_put n actors a y h = subst (Ends n) (sym (put-same actors a y)) h

ends_if : (b : Bool) (m n : Notice) (y z : Actor) → Ends m y → Ends n z → Ends (if b then m else n) (if b then y else z)
ends_if true m n y z f g = f
ends_if false m n y z f g = g

ends_world : (b : Bool) (m n : Notice) (s t : World) (a : ℕ) → Ends m (s.actors a) → Ends n (t.actors a)
    → Ends (if b then m else n) ((if b then s else t).actors a)
ends_world true m n s t a f g = f
ends_world false m n s t a f g = g

quiet_left : {A : Type 0} → (xs : List A) (n : Notice) → (IsConflict n → ⊥) → IsConflict (when_none_left xs n) → ⊥
quiet_left [] n ok h = ok h
quiet_left (x ∷ xs) n ok h = h

quiet_last : (es : Entries) (n : Notice) → (IsConflict n → ⊥) → IsConflict (last_notice es n) → ⊥
quiet_last [] n ok h = h
quiet_last (e ∷ es) n ok h = quiet_left es n ok h

look_ends : (s : World) (a : ℕ) (x : Actor) (l : ℕ) (w : LockWord) → Ends (look_notice x.rv l w) ((looked s a x l w).actors a)
look_ends s a x l (Free k) = ends_put (look_notice x.rv l (Free k)) s.actors a _
    (ends_if (leb k x.rv) Quiet (Moved l (bits (Free k))) (goes x (Fetch l k)) (goes x Undo) (λ h. absurd h) (λ _. tt))
look_ends s a x l (Locked k) = ends_put (look_notice x.rv l (Locked k)) s.actors a (goes x Undo) (λ _. tt)

again_ends : (s : World) (a : ℕ) (x : Actor) (l k v : ℕ) (w : LockWord)
    → Ends (again_notice l k v w) ((looked_again s a x l k v w).actors a)
again_ends s a x l k v (Free j) = ends_put (again_notice l k v (Free j)) s.actors a _
    (ends_if (eqb j k) (Number v) (Moved l (bits (Free j))) _ (goes x Undo) (λ h. absurd h) (λ _. tt))
again_ends s a x l k v (Locked j) = ends_put (again_notice l k v (Locked j)) s.actors a (goes x Undo) (λ _. tt)

lock_ends : (s : World) (a : ℕ) (x : Actor) (l : ℕ) (ls : List ℕ) (w : LockWord) → Ends (lock_notice l w) ((to_lock s a x l ls w).actors a)
lock_ends s a x l ls (Free k) h = absurd h
lock_ends s a x l ls (Locked k) h = ends_put (Busy l (bits (Locked k))) s.actors a (goes x Broken) (λ _. tt) h

take_ends : (s : World) (a : ℕ) (x : Actor) (l k : ℕ) (ls : List ℕ) (w : LockWord)
    → Ends (take_notice l k w) ((tried s a x l k ls w).actors a)
take_ends s a x l k ls (Free j) = ends_world (eqb j k) Quiet (Busy l (bits (Free j))) (locked s a x l k ls) (now s a (goes x Broken)) a
    (λ h. absurd h) (ends_put (Busy l (bits (Free j))) s.actors a (goes x Broken) (λ _. tt))
take_ends s a x l k ls (Locked j) = ends_put (Busy l (bits (Locked j))) s.actors a (goes x Broken) (λ _. tt)

check_ends : (s : World) (a : ℕ) (x : Actor) (l : ℕ) (ls : List ℕ) (w : LockWord) (own : Option ℕ)
    → Ends (check_notice x.rv x.wv l ls w own) ((checked s a x l ls w own).actors a)
check_ends s a x l ls (Free k) own = ends_put (check_notice x.rv x.wv l ls (Free k) own) s.actors a _
    (ends_if (leb k x.rv) (when_none_left ls (LockedAt x.wv)) (Invalid l (bits (Free k))) (goes x (Check ls)) (goes x Broken)
    (λ h. absurd (quiet_left ls (LockedAt x.wv) (λ b. b) h)) (λ _. tt))
check_ends s a x l ls (Locked k) (Some v) = ends_put (check_notice x.rv x.wv l ls (Locked k) (Some v)) s.actors a _
    (ends_if (leb k x.rv) (when_none_left ls (LockedAt x.wv)) (Invalid l (bits (Locked k))) (goes x (Check ls)) (goes x Broken)
    (λ h. absurd (quiet_left ls (LockedAt x.wv) (λ b. b) h)) (λ _. tt))
check_ends s a x l ls (Locked k) None = ends_put (Invalid l (bits (Locked k))) s.actors a (goes x Broken) (λ _. tt)

begin_quiet : (clock : ℕ) → IsConflict (if ltb clock clock_limit then Begun clock else Exhausted clock) → ⊥
begin_quiet clock = cond_both (ltb clock clock_limit) (Begun clock) (Exhausted clock) (λ n. IsConflict n → ⊥) (λ _ h. h) (λ _ h. h)

pub conflict_ends : (s : World) (a : ℕ) (x : Actor) (p : Place) → Ends (notice s x p) ((step s a x p).actors a)
conflict_ends s a x Idle h = absurd h
conflict_ends s a x Begin h = absurd (begin_quiet s.clock h)
conflict_ends s a x Open h = absurd h
conflict_ends s a x (Look l) h = look_ends s a x l (s.locks l) h
conflict_ends s a x (Fetch l k) h = absurd h
conflict_ends s a x (Again l k v) h = again_ends s a x l k v (s.locks l) h
conflict_ends s a x (Lock []) h = absurd (quiet_left (to_check x (s.clock + 1)) (LockedAt (s.clock + 1)) (λ b. b) h)
conflict_ends s a x (Lock (l ∷ ls)) h = lock_ends s a x l ls (s.locks l) h
conflict_ends s a x (Take l k ls) h = take_ends s a x l k ls (s.locks l) h
conflict_ends s a x (Check []) h = absurd h
conflict_ends s a x (Check (l ∷ ls)) h = check_ends s a x l ls (s.locks l) (lookup x.writes l) h
conflict_ends s a x Broken h = absurd h
conflict_ends s a x First h = absurd (quiet_last x.writes Stored (λ b. b) h)
conflict_ends s a x (Store []) h = absurd h
conflict_ends s a x (Store (l ∷ ls)) h = absurd (quiet_left ls Stored (λ b. b) h)
conflict_ends s a x Release h = absurd (quiet_last x.held Released (λ b. b) h)
conflict_ends s a x Undo h = absurd (quiet_last x.held Cancelled (λ b. b) h)
conflict_ends s a x Leave h = absurd h
conflict_ends s a x Close h = absurd h

-- and from there it only ends
abbrev StillEnds : Actor → Type 0
StillEnds y = IsEnding y.place ⊎ (y.place ≡ Idle)

abort_ends : (x : Actor) (w : Entries) → IsEnding x.place → IsEnding (abort x w).place
abort_ends x [] h = tt
abort_ends x (f ∷ fs) h = h

ask_ends : (x : Actor) (p : Place) (request : Request) → IsEnding p → IsEnding x.place → IsEnding (ask x p request).place
ask_ends x Idle AskBegin pl h = absurd pl
ask_ends x Idle AskBeginRead pl h = absurd pl
ask_ends x Open (AskRead l) pl h = absurd pl
ask_ends x Open (AskWrite l u) pl h = absurd pl
ask_ends x Open AskLock pl h = absurd pl
ask_ends x Open AskClose pl h = absurd pl
ask_ends x Open AskAbort pl h = absurd pl
ask_ends x (Look l) AskAbort pl h = absurd pl
ask_ends x (Fetch l k) AskAbort pl h = absurd pl
ask_ends x (Again l k v) AskAbort pl h = absurd pl
ask_ends x Close AskAbort pl h = absurd pl
ask_ends x Begin AskAbort pl h = absurd pl
ask_ends x (Lock ls) AskCancel pl h = absurd pl
ask_ends x (Take l k ls) AskCancel pl h = absurd pl
ask_ends x (Check ls) AskCancel pl h = absurd pl
ask_ends x Broken AskCancel pl h = tt
ask_ends x (Check []) AskStore pl h = absurd pl
ask_ends x (Store []) AskRelease pl h = absurd pl
ask_ends x Undo AskAbort pl h = abort_ends x x.held h
ask_ends x p request pl h = h

undo_ends : (s : World) (a : ℕ) (x : Actor) (h : Entries) → (s.actors a).place ≡ Undo → IsEnding ((undone s a x h).actors a).place
undo_ends s a x [] at_p = subst IsEnding (sym at_p) tt
undo_ends s a x (e ∷ es) at_p = subst (λ (y : Actor). IsEnding y.place) (sym (put-same s.actors a _)) tt

step_ends : (s : World) (a : ℕ) (p : Place) → (s.actors a).place ≡ p → IsEnding p → StillEnds ((step s a (s.actors a) p).actors a)
step_ends s a Broken e h = inl (subst IsEnding (sym e) tt)
step_ends s a Undo e h = inl (undo_ends s a (s.actors a) (s.actors a).held e)
step_ends s a Leave e h = inr (ap (λ (y : Actor). y.place) (put-same s.actors a (goes (s.actors a) Idle)))
step_ends s a Idle e h = absurd h
step_ends s a Begin e h = absurd h
step_ends s a Open e h = absurd h
step_ends s a (Look l) e h = absurd h
step_ends s a (Fetch l k) e h = absurd h
step_ends s a (Again l k v) e h = absurd h
step_ends s a (Lock ls) e h = absurd h
step_ends s a (Take l k ls) e h = absurd h
step_ends s a (Check ls) e h = absurd h
step_ends s a First e h = absurd h
step_ends s a (Store ls) e h = absurd h
step_ends s a Release e h = absurd h
step_ends s a Close e h = absurd h

pub still_ends : (s : World) (e : Event) (a : ℕ) → IsEnding (s.actors a).place → StillEnds ((happens s e).actors a)
still_ends s (Ask b request) a h =
    put_both StillEnds s.actors b (ask (s.actors b) (s.actors b).place request) a
    (λ q. let mine : IsEnding (s.actors b).place = subst (λ (n : ℕ). IsEnding (s.actors n).place) q h in inl
    (ask_ends (s.actors b) (s.actors b).place request mine mine))
    (λ _. inl h)
still_ends s (Step b) a h =
    elim (cases_eq a b) [
      | inl q ↦ subst (λ (n : ℕ). StillEnds ((happens s (Step n)).actors a)) q (step_ends s a (s.actors a).place refl h)
      | inr ne ↦ inl (subst (λ (y : Actor). IsEnding y.place) (sym (step_other s b a ne)) h)
    ]

-- it stores nothing
undo_values : (s : World) (a : ℕ) (x : Actor) (h : Entries) (l : ℕ) → (undone s a x h).values l ≡ s.values l
undo_values s a x [] l = refl
undo_values s a x (e ∷ es) l = refl

pub ending_values : (s : World) (a : ℕ) (x : Actor) (p : Place) (l : ℕ) → IsEnding p → (step s a x p).values l ≡ s.values l
ending_values s a x Broken l h = refl
ending_values s a x Undo l h = undo_values s a x x.held l
ending_values s a x Leave l h = refl
ending_values s a x Idle l h = absurd h
ending_values s a x Begin l h = absurd h
ending_values s a x Open l h = absurd h
ending_values s a x (Look i) l h = absurd h
ending_values s a x (Fetch i k) l h = absurd h
ending_values s a x (Again i k v) l h = absurd h
ending_values s a x (Lock ls) l h = absurd h
ending_values s a x (Take i k ls) l h = absurd h
ending_values s a x (Check ls) l h = absurd h
ending_values s a x First l h = absurd h
ending_values s a x (Store ls) l h = absurd h
ending_values s a x Release l h = absurd h
ending_values s a x Close l h = absurd h

-- and gives each lock back as it found it
pub gives_old : (s : World) (a l k : ℕ) (rest : Entries) → (s.actors a).place ≡ Undo → (s.actors a).held ≡ (l, k) ∷ rest
    → ((happens s (Step a)).locks l ≡ Free k) × (((happens s (Step a)).actors a).held ≡ rest)
gives_old s a l k rest e h =
    subst (λ (p : Place). ((step s a (s.actors a) p).locks l ≡ Free k) × (((step s a (s.actors a) p).actors a).held ≡ rest)) (sym e)
    (subst (λ (es : Entries). ((undone s a (s.actors a) es).locks l ≡ Free k) × (((undone s a (s.actors a) es).actors a).held ≡ rest))
    (sym h)
    (put-same s.locks l (Free k), ap (λ (y : Actor). y.held) (put-same s.actors a _)))
