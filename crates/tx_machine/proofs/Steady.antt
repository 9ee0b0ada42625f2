-- Steps and requests of the word machine that commit nothing: what they leave of an actor's transaction. First reads and the write set
-- remain, and the places change only within the same part of a transaction. One lemma for each place of the word machine says so.
use Rattle.std.proofs.Common.{◌≡◌, ℕ, true, false, eqb, leb, Option, Some, None, List, [], ◌∷◌, ◌++◌, ◌⊎◌, inl, inr, refl, sym, subst}
use Rattle.std.proofs.lemmas.Bool.{cond_both}
use Rattle.std.specs.Prelude.{unwrap_or, ◌+◌, nat_le, if◌then◌else◌}
use Rattle.vlock_word.specs.declared.lock_word.LockWord.{LockWord}
use Rattle.vlock_word.specs.declared.lock_word.LockWord.TheVariants.{Free, Locked}
use Rattle.tx_sets.specs.Entries.{Entries, lookup, locations}
use Rattle.tx_machine.specs.Actor.{Read, Place, Idle, Begin, Open, Look, Fetch, Again, Lock, Take, Check, Broken, First, Store, Release}
use Rattle.tx_machine.specs.Actor.{Undo, Leave, Close, Actor, goes, has_read, taken, to_check, stamped_at, freed}
use Rattle.tx_machine.specs.Requests.{Request, AskBegin, AskBeginRead, AskRead, AskWrite, AskLock, AskStore, AskRelease, AskCancel}
use Rattle.tx_machine.specs.Requests.{AskAbort, AskClose, ask, begin, read, lock, close, abort, replied}
use Rattle.tx_machine.specs.World.{Memory, put, Ended, World, now, step}
use Rattle.tx_machine.proofs.Worlds.{looked, looked_again, to_lock, locked, tried, checked, released, undone, gives_back}
use Rattle.tx_machine.specs.Opacity.{IsHalfDone}
use Rattle.tx_machine.proofs.Sets.{put-same, put-other}
use Rattle.tx_machine.specs.Opacity.{first_read}
use Rattle.tx_machine.proofs.Calls.{first_read-more}
use Rattle.tx_machine.proofs.Frame.{next}
use Rattle.tx_machine.proofs.Invariant.{PlaceOk}
use Rattle.tx_machine.proofs.BoostedInvariant.{IsFirst, IsRelease}

-- What is left of a transaction.
pub record SteadyTo (x y : Actor) : Type 0 where
  pub calls : (l e : ℕ) → first_read x.calls l ≡ Some e → first_read y.calls l ≡ Some e
  pub writes : y.writes ≡ x.writes
  pub half : IsHalfDone y.place → IsHalfDone x.place
  pub back : IsHalfDone x.place → IsHalfDone y.place ⊎ IsRelease x.place
  pub first : IsFirst y.place → IsFirst x.place
  pub release : IsRelease y.place → IsRelease x.place

pub record Steady (s : World) (a : ℕ) (t : World) : Type 0 where
  pub history : t.history ≡ s.history
  pub others : (b : ℕ) → (b ≡ a → ⊥) → t.actors b ≡ s.actors b
  pub own : SteadyTo (s.actors a) (t.actors a)

-- How an actor's place may change.
pub record Calm (p q : Place) : Type 0 where
  pub half : IsHalfDone q → IsHalfDone p
  pub back : IsHalfDone p → IsHalfDone q ⊎ IsRelease p
  pub first : IsFirst q → IsFirst p
  pub release : IsRelease q → IsRelease p

-- from a place that isn't half done to one that isn't committing
pub calm : (p q : Place) → (IsHalfDone p → ⊥) → (IsHalfDone q → ⊥) → (IsFirst q → ⊥) → (IsRelease q → ⊥) → Calm p q
calm p q a b d e = record { half = λ h. absurd (b h); back = λ h. absurd (a h); first = λ h. absurd (d h); release = λ h. absurd (e h) }

pub same_to : (x : Actor) → SteadyTo x x
same_to x = record { calls = λ l e h. h; writes = refl; half = λ h. h; back = λ h. inl h; first = λ h. h; release = λ h. h }

-- the same sets at another place
pub moves_to : (x y : Actor) (p : Place) → x.place ≡ p → Calm p y.place → y.writes ≡ x.writes
    → ((l e : ℕ) → first_read x.calls l ≡ Some e → first_read y.calls l ≡ Some e) → SteadyTo x y
moves_to x y p e k w r = record {
  calls = r;
  writes = w;
  half = λ h. subst IsHalfDone (sym e) (k.half h);
  back = λ h. elim (k.back (subst IsHalfDone e h)) [ inl z ↦ inl z | inr z ↦ inr (subst IsRelease (sym e) z) ];
  first = λ h. subst IsFirst (sym e) (k.first h);
  release = λ h. subst IsRelease (sym e) (k.release h);
}

pub goes_to : (x : Actor) (p q : Place) → x.place ≡ p → Calm p q → SteadyTo x (goes x q)
goes_to x p q e k = moves_to x (goes x q) p e k refl (λ l u h. h)

pub steady_next : (s : World) (a : ℕ) (y : Actor) (clock : ℕ) (locks : ℕ → LockWord) (values : Memory) (aborted : List Ended)
    → SteadyTo (s.actors a) y → Steady s a (next s a y clock locks values s.history aborted)
steady_next s a y clock locks values aborted k = record {
  history = refl;
  others = λ b ne. put-other s.actors a y b ne;
  own = subst (SteadyTo (s.actors a)) (sym (put-same s.actors a y)) k;
}

pub steady : (s : World) (a : ℕ) (y : Actor) → SteadyTo (s.actors a) y → Steady s a (now s a y)
steady s a y k = steady_next s a y s.clock s.locks s.values s.aborted k

pub steady_none : (s : World) (a : ℕ) → Steady s a s
steady_none s a = record { history = refl; others = λ b ne. refl; own = same_to (s.actors a) }

-- requests
read_to : (x : Actor) (l : ℕ) (o seen : Option ℕ) → x.place ≡ Open → SteadyTo x (read x l o seen)
read_to x l (Some v) seen e = moves_to x (replied x (Read l v)) Open e (calm Open Open (λ h. h) (λ h. h) (λ h. h) (λ h. h)) refl
    (λ i u h. first_read-more x.calls (Read l v ∷ []) i u h)
read_to x l None (Some v) e = moves_to x (replied x (Read l v)) Open e (calm Open Open (λ h. h) (λ h. h) (λ h. h) (λ h. h)) refl
    (λ i u h. first_read-more x.calls (Read l v ∷ []) i u h)
read_to x l None None e = goes_to x Open (Look l) e (calm Open (Look l) (λ h. h) (λ h. h) (λ h. h) (λ h. h))

lock_to : (x : Actor) (w : Entries) → x.place ≡ Open → SteadyTo x (lock x w)
lock_to x [] e = same_to x
lock_to x (f ∷ fs) e = goes_to x Open (Lock (locations (f ∷ fs))) e
    (calm Open (Lock (locations (f ∷ fs))) (λ h. h) (λ h. h) (λ h. h) (λ h. h))

close_to : (x : Actor) (w : Entries) → x.place ≡ Open → SteadyTo x (close x w)
close_to x [] e = goes_to x Open Close e (calm Open Close (λ h. h) (λ h. h) (λ h. h) (λ h. h))
close_to x (f ∷ fs) e = same_to x

abort_to : (x : Actor) (w : Entries) → x.place ≡ Undo → SteadyTo x (abort x w)
abort_to x [] e = goes_to x Undo Leave e (calm Undo Leave (λ h. h) (λ h. h) (λ h. h) (λ h. h))
abort_to x (f ∷ fs) e = same_to x

-- a request without a guard
abbrev pub IsFreeAsk : Request → Type 0
IsFreeAsk (AskWrite l v) = ⊥
IsFreeAsk AskStore = ⊥
IsFreeAsk AskRelease = ⊥
IsFreeAsk r = Unit {0}

pub ask_to : (x : Actor) (p : Place) (r : Request) → x.place ≡ p → IsFreeAsk r → SteadyTo x (ask x p r)
ask_to x Idle AskBegin e f = moves_to x (begin x false) Idle e (calm Idle Begin (λ h. h) (λ h. h) (λ h. h) (λ h. h)) refl (λ l u h. h)
ask_to x Idle AskBeginRead e f = moves_to x (begin x true) Idle e (calm Idle Begin (λ h. h) (λ h. h) (λ h. h) (λ h. h)) refl (λ l u h. h)
ask_to x Open (AskRead l) e f = read_to x l (lookup x.writes l) (lookup x.reads l) e
ask_to x Open (AskWrite l v) e f = absurd f
ask_to x Open AskLock e f = lock_to x x.writes e
ask_to x Open AskClose e f = close_to x x.writes e
ask_to x Open AskAbort e f = goes_to x Open Leave e (calm Open Leave (λ h. h) (λ h. h) (λ h. h) (λ h. h))
ask_to x (Look l) AskAbort e f = goes_to x (Look l) Leave e (calm (Look l) Leave (λ h. h) (λ h. h) (λ h. h) (λ h. h))
ask_to x (Fetch l k) AskAbort e f = goes_to x (Fetch l k) Leave e (calm (Fetch l k) Leave (λ h. h) (λ h. h) (λ h. h) (λ h. h))
ask_to x (Again l k v) AskAbort e f = goes_to x (Again l k v) Leave e (calm (Again l k v) Leave (λ h. h) (λ h. h) (λ h. h) (λ h. h))
ask_to x Close AskAbort e f = goes_to x Close Leave e (calm Close Leave (λ h. h) (λ h. h) (λ h. h) (λ h. h))
ask_to x Begin AskAbort e f = goes_to x Begin Idle e (calm Begin Idle (λ h. h) (λ h. h) (λ h. h) (λ h. h))
ask_to x (Lock ls) AskCancel e f = goes_to x (Lock ls) Undo e (calm (Lock ls) Undo (λ h. h) (λ h. h) (λ h. h) (λ h. h))
ask_to x (Take l k ls) AskCancel e f = goes_to x (Take l k ls) Undo e (calm (Take l k ls) Undo (λ h. h) (λ h. h) (λ h. h) (λ h. h))
ask_to x (Check ls) AskCancel e f = goes_to x (Check ls) Undo e (calm (Check ls) Undo (λ h. h) (λ h. h) (λ h. h) (λ h. h))
ask_to x Broken AskCancel e f = goes_to x Broken Undo e (calm Broken Undo (λ h. h) (λ h. h) (λ h. h) (λ h. h))
ask_to x (Check []) AskStore e f = absurd f
ask_to x (Store []) AskRelease e f = absurd f
ask_to x Undo AskAbort e f = abort_to x x.held e
ask_to x p r e f = same_to x

-- a step that begins, commits or ends nothing
abbrev pub IsPlainStep : Place → Type 0
IsPlainStep Begin = ⊥
IsPlainStep First = ⊥
IsPlainStep Close = ⊥
IsPlainStep p = Unit {0}

to_undo : (s : World) (a : ℕ) (p : Place) → (s.actors a).place ≡ p → (IsHalfDone p → ⊥) → Steady s a (now s a (goes (s.actors a) Undo))
to_undo s a p e n = steady s a (goes (s.actors a) Undo) (goes_to (s.actors a) p Undo e (calm p Undo n (λ h. h) (λ h. h) (λ h. h)))

to_broken : (s : World) (a : ℕ) (p : Place) → (s.actors a).place ≡ p → (IsHalfDone p → ⊥) → Steady s a (now s a (goes (s.actors a) Broken))
to_broken s a p e n = steady s a (goes (s.actors a) Broken) (goes_to (s.actors a) p Broken e (calm p Broken n (λ h. h) (λ h. h) (λ h. h)))

looked_steady : (s : World) (a l : ℕ) (w : LockWord) → (s.actors a).place ≡ Look l → Steady s a (looked s a (s.actors a) l w)
looked_steady s a l (Free k) e =
    cond_both (leb k (s.actors a).rv) (goes (s.actors a) (Fetch l k)) (goes (s.actors a) Undo) (λ (z : Actor). Steady s a (now s a z))
    (λ _. steady s a (goes (s.actors a) (Fetch l k))
    (goes_to (s.actors a) (Look l) (Fetch l k) e (calm (Look l) (Fetch l k) (λ h. h) (λ h. h) (λ h. h) (λ h. h))))
    (λ _. to_undo s a (Look l) e (λ h. h))
looked_steady s a l (Locked k) e = to_undo s a (Look l) e (λ h. h)

again_steady : (s : World) (a l k v : ℕ) (w : LockWord) → (s.actors a).place ≡ Again l k v → lookup (s.actors a).reads l ≡ None
    → Steady s a (looked_again s a (s.actors a) l k v w)
again_steady s a l k v (Free j) e none =
    cond_both (eqb j k) (has_read (s.actors a) l v) (goes (s.actors a) Undo) (λ (z : Actor). Steady s a (now s a z))
    (λ _. steady s a (has_read (s.actors a) l v)
    (moves_to (s.actors a) (has_read (s.actors a) l v) (Again l k v) e
    (calm (Again l k v) Open (λ h. h) (λ h. h) (λ h. h) (λ h. h)) refl
    (λ i u h. first_read-more (s.actors a).calls (Read l v ∷ []) i u h)))
    (λ _. to_undo s a (Again l k v) e (λ h. h))
again_steady s a l k v (Locked j) e none = to_undo s a (Again l k v) e (λ h. h)

to_lock_steady : (s : World) (a l : ℕ) (ls : List ℕ) (w : LockWord) → (s.actors a).place ≡ Lock (l ∷ ls)
    → Steady s a (to_lock s a (s.actors a) l ls w)
to_lock_steady s a l ls (Free k) e = steady s a (goes (s.actors a) (Take l k ls))
    (goes_to (s.actors a) (Lock (l ∷ ls)) (Take l k ls) e (calm (Lock (l ∷ ls)) (Take l k ls) (λ h. h) (λ h. h) (λ h. h) (λ h. h)))
to_lock_steady s a l ls (Locked k) e = to_broken s a (Lock (l ∷ ls)) e (λ h. h)

tried_steady : (s : World) (a l k : ℕ) (ls : List ℕ) (w : LockWord) → (s.actors a).place ≡ Take l k ls
    → Steady s a (tried s a (s.actors a) l k ls w)
tried_steady s a l k ls (Free j) e =
    cond_both (eqb j k) (locked s a (s.actors a) l k ls) (now s a (goes (s.actors a) Broken)) (Steady s a)
    (λ _. (let x = s.actors a in
    let y = taken x l k ls in
    steady_next s a y s.clock (put s.locks l (Locked k)) s.values s.aborted
    (moves_to x y (Take l k ls) e (calm (Take l k ls) (Lock ls) (λ h. h) (λ h. h) (λ h. h) (λ h. h)) refl (λ i u h. h))))
    (λ _. to_broken s a (Take l k ls) e (λ h. h))
tried_steady s a l k ls (Locked j) e = to_broken s a (Take l k ls) e (λ h. h)

check_steady : (s : World) (a l k : ℕ) (ls : List ℕ) → (s.actors a).place ≡ Check (l ∷ ls)
    → Steady s a (now s a (if nat_le k (s.actors a).rv then goes (s.actors a) (Check ls) else goes (s.actors a) Broken))
check_steady s a l k ls e =
    cond_both (leb k (s.actors a).rv) (goes (s.actors a) (Check ls)) (goes (s.actors a) Broken) (λ (z : Actor). Steady s a (now s a z))
    (λ _. steady s a (goes (s.actors a) (Check ls))
    (goes_to (s.actors a) (Check (l ∷ ls)) (Check ls) e (calm (Check (l ∷ ls)) (Check ls) (λ h. h) (λ h. h) (λ h. h) (λ h. h))))
    (λ _. to_broken s a (Check (l ∷ ls)) e (λ h. h))

checked_steady : (s : World) (a l : ℕ) (ls : List ℕ) (w : LockWord) (own : Option ℕ) → (s.actors a).place ≡ Check (l ∷ ls)
    → Steady s a (checked s a (s.actors a) l ls w own)
checked_steady s a l ls (Free k) own e = check_steady s a l k ls e
checked_steady s a l ls (Locked k) (Some old) e = check_steady s a l k ls e
checked_steady s a l ls (Locked k) None e = to_broken s a (Check (l ∷ ls)) e (λ h. h)

from_release : Calm Release Idle
from_release = record { half = λ h. absurd h; back = λ h. inr tt; first = λ h. absurd h; release = λ h. absurd h }

gives_steady : (s : World) (a l : ℕ) (w : LockWord) (rest : Entries) (p q : Place) → (s.actors a).place ≡ p → Calm p q
    → Steady s a (gives_back s a (s.actors a) l w rest q)
gives_steady s a l w rest p q e k =
    let x = s.actors a in
    let y = freed x rest q in
    steady_next s a y s.clock (put s.locks l w) s.values s.aborted (moves_to x y p e k refl (λ i u h. h))

released_steady : (s : World) (a : ℕ) (h : Entries) → (s.actors a).place ≡ Release → Steady s a (released s a (s.actors a) h)
released_steady s a [] e = steady_none s a
released_steady s a (f ∷ []) e = gives_steady s a f.0 (Free (s.actors a).wv) [] Release Idle e from_release
released_steady s a (f ∷ (g ∷ es)) e = gives_steady s a f.0 (Free (s.actors a).wv) (g ∷ es) Release Release e
    (record { half = λ h. h; back = λ h. inl h; first = λ h. h; release = λ h. h })

undone_steady : (s : World) (a : ℕ) (h : Entries) → (s.actors a).place ≡ Undo → Steady s a (undone s a (s.actors a) h)
undone_steady s a [] e = steady_none s a
undone_steady s a (f ∷ es) e = gives_steady s a f.0 (Free f.1) es Undo Undo e (calm Undo Undo (λ h. h) (λ h. h) (λ h. h) (λ h. h))

pub step_steady : (s : World) (a : ℕ) (p : Place) → (s.actors a).place ≡ p → PlaceOk s (s.actors a) p → IsPlainStep p
    → Steady s a (step s a (s.actors a) p)
step_steady s a Idle e pl n = steady_none s a
step_steady s a Begin e pl n = absurd n
step_steady s a Open e pl n = steady_none s a
step_steady s a (Look l) e pl n = looked_steady s a l (s.locks l) e
step_steady s a (Fetch l k) e pl n = steady s a (goes (s.actors a) (Again l k (s.values l)))
    (goes_to (s.actors a) (Fetch l k) (Again l k (s.values l)) e
    (calm (Fetch l k) (Again l k (s.values l)) (λ h. h) (λ h. h) (λ h. h) (λ h. h)))
step_steady s a (Again l k u) e pl n = again_steady s a l k u (s.locks l) e pl.0.2
step_steady s a (Lock []) e pl n =
    (let x = s.actors a in
    let y = stamped_at x (s.clock + 1) in
    steady_next s a y (s.clock + 1) s.locks s.values s.aborted
    (moves_to x y (Lock []) e (calm (Lock []) (Check (to_check x (s.clock + 1))) (λ h. h) (λ h. h) (λ h. h) (λ h. h)) refl
    (λ i u h. h)))
step_steady s a (Lock (l ∷ ls)) e pl n = to_lock_steady s a l ls (s.locks l) e
step_steady s a (Take l k ls) e pl n = tried_steady s a l k ls (s.locks l) e
step_steady s a (Check []) e pl n = steady_none s a
step_steady s a (Check (l ∷ ls)) e pl n = checked_steady s a l ls (s.locks l) (lookup (s.actors a).writes l) e
step_steady s a Broken e pl n = steady_none s a
step_steady s a First e pl n = absurd n
step_steady s a (Store []) e pl n = steady_none s a
step_steady s a (Store (l ∷ ls)) e pl n =
    (let x = s.actors a in
    steady_next s a (goes x (Store ls)) s.clock s.locks (put s.values l (unwrap_or (lookup x.writes l) 0)) s.aborted
    (goes_to x (Store (l ∷ ls)) (Store ls) e (record { half = λ h. h; back = λ h. inl h; first = λ h. h; release = λ h. h })))
step_steady s a Release e pl n = released_steady s a (s.actors a).held e
step_steady s a Undo e pl n = undone_steady s a (s.actors a).held e
step_steady s a Leave e pl n =
    steady_next s a (goes (s.actors a) Idle) s.clock s.locks s.values
    (s.aborted ++ record { actor = a; rv = (s.actors a).rv; calls = (s.actors a).calls } ∷ [])
    (goes_to (s.actors a) Leave Idle e (calm Leave Idle (λ h. h) (λ h. h) (λ h. h) (λ h. h)))
step_steady s a Close e pl n = absurd n

-- but for the end of an aborted transaction nothing is added to them
abbrev pub IsLeave : Place → Type 0
IsLeave Leave = Unit {0}
IsLeave p = ⊥

looked_ends : (s : World) (a l : ℕ) (w : LockWord) → (looked s a (s.actors a) l w).aborted ≡ s.aborted
looked_ends s a l (Free k) = refl
looked_ends s a l (Locked k) = refl

again_ends : (s : World) (a l k v : ℕ) (w : LockWord) → (looked_again s a (s.actors a) l k v w).aborted ≡ s.aborted
again_ends s a l k v (Free j) = refl
again_ends s a l k v (Locked j) = refl

to_lock_ends : (s : World) (a l : ℕ) (ls : List ℕ) (w : LockWord) → (to_lock s a (s.actors a) l ls w).aborted ≡ s.aborted
to_lock_ends s a l ls (Free k) = refl
to_lock_ends s a l ls (Locked k) = refl

tried_ends : (s : World) (a l k : ℕ) (ls : List ℕ) (w : LockWord) → (tried s a (s.actors a) l k ls w).aborted ≡ s.aborted
tried_ends s a l k ls (Free j) = cond_both (eqb j k) (locked s a (s.actors a) l k ls) (now s a (goes (s.actors a) Broken))
    (λ (z : World). z.aborted ≡ s.aborted) (λ _. refl) (λ _. refl)
tried_ends s a l k ls (Locked j) = refl

checked_ends : (s : World) (a l : ℕ) (ls : List ℕ) (w : LockWord) (own : Option ℕ) → (checked s a (s.actors a) l ls w own).aborted
    ≡ s.aborted
checked_ends s a l ls (Free k) own = refl
checked_ends s a l ls (Locked k) (Some old) = refl
checked_ends s a l ls (Locked k) None = refl

released_ends : (s : World) (a : ℕ) (h : Entries) → (released s a (s.actors a) h).aborted ≡ s.aborted
released_ends s a [] = refl
released_ends s a (f ∷ []) = refl
released_ends s a (f ∷ (g ∷ es)) = refl

undone_ends : (s : World) (a : ℕ) (h : Entries) → (undone s a (s.actors a) h).aborted ≡ s.aborted
undone_ends s a [] = refl
undone_ends s a (f ∷ es) = refl

pub step_ends : (s : World) (a : ℕ) (p : Place) → IsPlainStep p → (IsLeave p → ⊥) → (step s a (s.actors a) p).aborted ≡ s.aborted
step_ends s a (Look l) n m = looked_ends s a l (s.locks l)
step_ends s a (Again l k u) n m = again_ends s a l k u (s.locks l)
step_ends s a (Lock []) n m = refl
step_ends s a (Lock (l ∷ ls)) n m = to_lock_ends s a l ls (s.locks l)
step_ends s a (Take l k ls) n m = tried_ends s a l k ls (s.locks l)
step_ends s a (Check []) n m = refl
step_ends s a (Check (l ∷ ls)) n m = checked_ends s a l ls (s.locks l) (lookup (s.actors a).writes l)
step_ends s a (Store []) n m = refl
step_ends s a (Store (l ∷ ls)) n m = refl
step_ends s a Release n m = released_ends s a (s.actors a).held
step_ends s a Undo n m = undone_ends s a (s.actors a).held
step_ends s a Leave n m = absurd (m tt)
step_ends s a First n m = absurd n
step_ends s a p n m = refl
