-- A number that was given to a transaction which then aborted is no writer's, at any later moment. Such a number is *spent*: the clock has
-- passed it, no writer in the history has it, and no commit under way has it. Every event keeps that: a commit is given the number after
-- the clock, and a record has the number of a commit that was under way. An actor that has no number yet counts as of 0, which is spent
-- from the start.
use Rattle.std.proofs.Common.{◌≡◌, ◌≢◌, ℕ, ◌<◌, ◌≤◌, cond, Bool, true, false, eqb, ltb, leb, Option, Some, None, List, [], ◌∷◌, ◌⊎◌, inl}
use Rattle.std.proofs.Common.{inr, refl, sym, ap, ◌∙◌, subst, arith}
use Rattle.std.proofs.lemmas.Bool.{cases_eq}
use Rattle.vlock_word.specs.declared.lock_word.LockWord.{LockWord}
use Rattle.vlock_word.specs.declared.lock_word.LockWord.TheVariants.{Free, Locked}
use Rattle.tx_sets.specs.Entries.{Entries, lookup, locations}
use Rattle.tx_machine.specs.Actor.{Place, Idle, Begin, Open, Look, Fetch, Again, Lock, Take, Check, Broken, First, Store, Release, Undo}
use Rattle.tx_machine.specs.Actor.{Leave, Close, Actor, goes, opened, has_read, clock_limit, taken}
use Rattle.tx_machine.specs.Requests.{Request, AskBegin, AskBeginRead, AskLock, AskStore, AskRelease, AskCancel, AskAbort, AskClose}
use Rattle.tx_machine.specs.Requests.{AskRead, AskWrite, read, write, lock, close, abort, ask}
use Rattle.tx_machine.specs.World.{Memory, Record, World, Event, Ask, Step, Deed, Rests, LoadClock, AddToClock, LoadLock, LoadValue}
use Rattle.tx_machine.specs.World.{ExchangeLock, StoreValue, StoreLock, insert, comes_before, now, put, does, exchanged, noted, plan}
use Rattle.tx_machine.specs.World.{step_end, first_step_end, step, happens, run, start}
use Rattle.tx_machine.specs.Opacity.{NoWriterHas, whose}
use Rattle.tx_machine.specs.Refusals.{IsEnding}
use Rattle.tx_machine.proofs.Worlds.{looked, looked_again, to_lock, locked, tried, checked, first, released, undone}
use Rattle.tx_machine.proofs.Sets.{put-same, put-other}
use Rattle.tx_machine.proofs.Records.{AllRecords}
use Rattle.tx_machine.proofs.Invariant.{IsPending, RecordOk, Inv}
use Rattle.tx_machine.proofs.Frame.{stamp_of}
use Rattle.tx_machine.proofs.Schedules.{happens_ok, start_ok, reached}
use Rattle.tx_machine.proofs.AnswerBound.{step_other}

-- within a transaction, and without a number yet
abbrev pub IsUnnumbered : Place → Type 0
IsUnnumbered Open = Unit {0}
IsUnnumbered (Look l) = Unit {0}
IsUnnumbered (Fetch l k) = Unit {0}
IsUnnumbered (Again l k v) = Unit {0}
IsUnnumbered (Lock ls) = Unit {0}
IsUnnumbered (Take l k ls) = Unit {0}
IsUnnumbered Close = Unit {0}
IsUnnumbered p = ⊥

-- no writer has this number or will have it
record Spent (s : World) (n : ℕ) : Type 0 where
  past : n ≤ s.clock
  listed : NoWriterHas n s.history
  pending : (b : ℕ) → IsPending (s.actors b).place → (s.actors b).wv ≡ n → ⊥

-- what an actor's number is by its place
record NumberOk (s : World) (x : Actor) : Type 0 where
  none : IsUnnumbered x.place → x.wv ≡ 0
  spent : IsEnding x.place → Spent s x.wv

-- with a number, and no value to store yet
abbrev pub IsChecking : Place → Type 0
IsChecking (Check ls) = Unit {0}
IsChecking p = ⊥

-- where a transaction can abort from
abbrev pub GivesUp : Place → Type 0
GivesUp p = IsUnnumbered p ⊎ (IsChecking p ⊎ IsEnding p)

-- x at p becomes y by an event of its own, with this clock
record Turns (clock : ℕ) (x : Actor) (p : Place) (y : Actor) : Type 0 where
  none : IsUnnumbered y.place → y.wv ≡ 0
  kept : IsPending y.place → (IsPending p × (x.wv ≡ y.wv)) ⊎ (clock < y.wv)
  ended : IsEnding y.place → GivesUp p × (x.wv ≡ y.wv)

-- ---- what an event makes of its actor
-- with the number that it had
numbered : (c : ℕ) (x : Actor) (p : Place) (y : Actor) → y.wv ≡ x.wv → (IsUnnumbered p → x.wv ≡ 0) → (IsUnnumbered y.place → IsUnnumbered p)
    → (IsPending y.place → IsPending p) → (IsEnding y.place → GivesUp p) → Turns c x p y
numbered c x p y same none f g h = record {
  none = λ u. same ∙ none (f u);
  kept = λ u. inl (g u, sym same);
  ended = λ u. (h u, sym same);
}

-- at a place that says nothing of it
rests : (c : ℕ) (x : Actor) (p : Place) (y : Actor) → (IsUnnumbered y.place → ⊥) → (IsPending y.place → ⊥) → (IsEnding y.place → ⊥)
    → Turns c x p y
rests c x p y f g h = record { none = λ u. absurd (f u); kept = λ u. absurd (g u); ended = λ u. absurd (h u) }

-- as it was
stays : (c : ℕ) (x : Actor) (p : Place) → x.place ≡ p → (IsUnnumbered p → x.wv ≡ 0) → Turns c x p x
stays c x p e none =
    numbered c x p x refl none (λ h. subst IsUnnumbered e h) (λ h. subst IsPending e h) (λ h. inr (inr (subst IsEnding e h)))

turns_if : (b : Bool) (c : ℕ) (x : Actor) (p : Place) (y z : Actor) → Turns c x p y → Turns c x p z → Turns c x p (cond b y z)
turns_if true c x p y z f g = f
turns_if false c x p y z f g = g

-- an open transaction, at any place where it has no number, or aborts
opens : (c : ℕ) (x : Actor) (p : Place) (y : Actor) → y.wv ≡ x.wv → (IsUnnumbered p → x.wv ≡ 0) → IsUnnumbered p
    → (IsPending y.place → ⊥) → Turns c x p y
opens c x p y same none at_p g = numbered c x p y same none (λ _. at_p) (λ h. absurd (g h)) (λ _. inl at_p)

-- a commit that has its number continues, or aborts
presses : (c : ℕ) (x : Actor) (ls : List ℕ) (y : Actor) → y.wv ≡ x.wv → (IsUnnumbered y.place → ⊥) → Turns c x (Check ls) y
presses c x ls y same g = record { none = λ u. absurd (g u); kept = λ _. inl (tt, sym same); ended = λ _. (inr (inl tt), sym same) }

-- one that aborts continues to its end
winds : (c : ℕ) (x : Actor) (p : Place) (y : Actor) → y.wv ≡ x.wv → IsEnding p → (IsUnnumbered y.place → ⊥) → (IsPending y.place → ⊥)
    → Turns c x p y
winds c x p y same at_p f g = record { none = λ u. absurd (f u); kept = λ u. absurd (g u); ended = λ _. (inr (inr at_p), sym same) }

-- ---- requests
read_turns : (c : ℕ) (x : Actor) (l : ℕ) (w r : Option ℕ) → (IsUnnumbered Open → x.wv ≡ 0) → Turns c x Open (read x l w r)
read_turns c x l (Some v) r none = opens c x Open _ refl none tt (λ h. h)
read_turns c x l None (Some v) none = opens c x Open _ refl none tt (λ h. h)
read_turns c x l None None none = opens c x Open _ refl none tt (λ h. h)

write_turns : (c : ℕ) (x : Actor) (b : Bool) (l v : ℕ) → x.place ≡ Open → (IsUnnumbered Open → x.wv ≡ 0) → Turns c x Open (write x b l v)
write_turns c x true l v e none = stays c x Open e none
write_turns c x false l v e none = opens c x Open _ refl none tt (λ h. h)

lock_turns : (c : ℕ) (x : Actor) (w : Entries) → x.place ≡ Open → (IsUnnumbered Open → x.wv ≡ 0) → Turns c x Open (lock x w)
lock_turns c x [] e none = stays c x Open e none
lock_turns c x (f ∷ fs) e none = opens c x Open _ refl none tt (λ h. h)

close_turns : (c : ℕ) (x : Actor) (w : Entries) → x.place ≡ Open → (IsUnnumbered Open → x.wv ≡ 0) → Turns c x Open (close x w)
close_turns c x [] e none = opens c x Open _ refl none tt (λ h. h)
close_turns c x (f ∷ fs) e none = stays c x Open e none

abort_turns : (c : ℕ) (x : Actor) (h : Entries) → x.place ≡ Undo → (IsUnnumbered Undo → x.wv ≡ 0) → Turns c x Undo (abort x h)
abort_turns c x [] e none = winds c x Undo _ refl tt (λ h. h) (λ h. h)
abort_turns c x (f ∷ fs) e none = stays c x Undo e none

ask_turns : (c : ℕ) (x : Actor) (p : Place) (request : Request) → x.place ≡ p → (IsUnnumbered p → x.wv ≡ 0) → Turns c x p (ask x p request)
ask_turns c x Idle AskBegin e none = rests c x Idle _ (λ h. h) (λ h. h) (λ h. h)
ask_turns c x Idle AskBeginRead e none = rests c x Idle _ (λ h. h) (λ h. h) (λ h. h)
ask_turns c x Open (AskRead l) e none = read_turns c x l (lookup x.writes l) (lookup x.reads l) none
ask_turns c x Open (AskWrite l v) e none = write_turns c x x.declared l v e none
ask_turns c x Open AskLock e none = lock_turns c x x.writes e none
ask_turns c x Open AskClose e none = close_turns c x x.writes e none
ask_turns c x Open AskAbort e none = opens c x Open _ refl none tt (λ h. h)
ask_turns c x (Look l) AskAbort e none = opens c x (Look l) _ refl none tt (λ h. h)
ask_turns c x (Fetch l k) AskAbort e none = opens c x (Fetch l k) _ refl none tt (λ h. h)
ask_turns c x (Again l k v) AskAbort e none = opens c x (Again l k v) _ refl none tt (λ h. h)
ask_turns c x Close AskAbort e none = opens c x Close _ refl none tt (λ h. h)
ask_turns c x Begin AskAbort e none = rests c x Begin _ (λ h. h) (λ h. h) (λ h. h)
ask_turns c x (Lock ls) AskCancel e none = opens c x (Lock ls) _ refl none tt (λ h. h)
ask_turns c x (Take l k ls) AskCancel e none = opens c x (Take l k ls) _ refl none tt (λ h. h)
ask_turns c x (Check ls) AskCancel e none = presses c x ls _ refl (λ h. h)
ask_turns c x Broken AskCancel e none = winds c x Broken _ refl tt (λ h. h) (λ h. h)
ask_turns c x (Check []) AskStore e none = presses c x [] _ refl (λ h. h)
ask_turns c x (Store []) AskRelease e none = rests c x (Store []) _ (λ h. h) (λ h. h) (λ h. h)
ask_turns c x Undo AskAbort e none = abort_turns c x x.held e none
ask_turns c x p request e none = stays c x p e none

-- ---- steps
turns_put : (c : ℕ) (x : Actor) (p : Place) (actors : ℕ → Actor) (a : ℕ) (y : Actor) → Turns c x p y → Turns c x p (put actors a y a)
turns_put c x p actors a y h = subst (Turns c x p) (sym (put-same actors a y)) h

turns_world : (b : Bool) (c : ℕ) (x : Actor) (p : Place) (s t : World) (a : ℕ) → Turns c x p (s.actors a) → Turns c x p (t.actors a)
    → Turns c x p ((cond b s t).actors a)
turns_world true c x p s t a f g = f
turns_world false c x p s t a f g = g

looked_turns : (s : World) (a : ℕ) (x : Actor) (l : ℕ) (w : LockWord) → (IsUnnumbered (Look l) → x.wv ≡ 0)
    → Turns s.clock x (Look l) ((looked s a x l w).actors a)
looked_turns s a x l (Free k) none =
    turns_put s.clock x (Look l) s.actors a _ (turns_if (leb k x.rv) s.clock x (Look l) (goes x (Fetch l k)) (goes x Undo)
    (opens s.clock x (Look l) _ refl none tt (λ h. h)) (opens s.clock x (Look l) _ refl none tt (λ h. h)))
looked_turns s a x l (Locked k) none = turns_put s.clock x (Look l) s.actors a (goes x Undo)
    (opens s.clock x (Look l) _ refl none tt (λ h. h))

again_turns : (s : World) (a : ℕ) (x : Actor) (l k v : ℕ) (w : LockWord) → (IsUnnumbered (Again l k v) → x.wv ≡ 0)
    → Turns s.clock x (Again l k v) ((looked_again s a x l k v w).actors a)
again_turns s a x l k v (Free j) none =
    turns_put s.clock x (Again l k v) s.actors a _ (turns_if (eqb j k) s.clock x (Again l k v) (has_read x l v) (goes x Undo)
    (opens s.clock x (Again l k v) _ refl none tt (λ h. h)) (opens s.clock x (Again l k v) _ refl none tt (λ h. h)))
again_turns s a x l k v (Locked j) none = turns_put s.clock x (Again l k v) s.actors a (goes x Undo)
    (opens s.clock x (Again l k v) _ refl none tt (λ h. h))

to_lock_turns : (s : World) (a : ℕ) (x : Actor) (l : ℕ) (ls : List ℕ) (w : LockWord) → (IsUnnumbered (Lock (l ∷ ls)) → x.wv ≡ 0)
    → Turns s.clock x (Lock (l ∷ ls)) ((to_lock s a x l ls w).actors a)
to_lock_turns s a x l ls (Free k) none = turns_put s.clock x (Lock (l ∷ ls)) s.actors a (goes x (Take l k ls))
    (opens s.clock x (Lock (l ∷ ls)) _ refl none tt (λ h. h))
to_lock_turns s a x l ls (Locked k) none = turns_put s.clock x (Lock (l ∷ ls)) s.actors a (goes x Broken)
    (opens s.clock x (Lock (l ∷ ls)) _ refl none tt (λ h. h))

take_turns : (s : World) (a : ℕ) (x : Actor) (l k : ℕ) (ls : List ℕ) (w : LockWord) → (IsUnnumbered (Take l k ls) → x.wv ≡ 0)
    → Turns s.clock x (Take l k ls) ((tried s a x l k ls w).actors a)
take_turns s a x l k ls (Free j) none =
    turns_world (eqb j k) s.clock x (Take l k ls) (locked s a x l k ls) (now s a (goes x Broken)) a
    (turns_put s.clock x (Take l k ls) s.actors a (taken x l k ls) (opens s.clock x (Take l k ls) _ refl none tt (λ h. h)))
    (turns_put s.clock x (Take l k ls) s.actors a (goes x Broken) (opens s.clock x (Take l k ls) _ refl none tt (λ h. h)))
take_turns s a x l k ls (Locked j) none = turns_put s.clock x (Take l k ls) s.actors a (goes x Broken)
    (opens s.clock x (Take l k ls) _ refl none tt (λ h. h))

check_turns : (s : World) (a : ℕ) (x : Actor) (l : ℕ) (ls : List ℕ) (w : LockWord) (own : Option ℕ)
    → Turns s.clock x (Check (l ∷ ls)) ((checked s a x l ls w own).actors a)
check_turns s a x l ls (Free k) own =
    turns_put s.clock x (Check (l ∷ ls)) s.actors a _ (turns_if (leb k x.rv) s.clock x (Check (l ∷ ls)) (goes x (Check ls)) (goes x Broken)
    (presses s.clock x (l ∷ ls) _ refl (λ h. h)) (presses s.clock x (l ∷ ls) _ refl (λ h. h)))
check_turns s a x l ls (Locked k) (Some old) =
    turns_put s.clock x (Check (l ∷ ls)) s.actors a _ (turns_if (leb k x.rv) s.clock x (Check (l ∷ ls)) (goes x (Check ls)) (goes x Broken)
    (presses s.clock x (l ∷ ls) _ refl (λ h. h)) (presses s.clock x (l ∷ ls) _ refl (λ h. h)))
check_turns s a x l ls (Locked k) None = turns_put s.clock x (Check (l ∷ ls)) s.actors a (goes x Broken)
    (presses s.clock x (l ∷ ls) _ refl (λ h. h))

first_turns : (s : World) (a : ℕ) (x : Actor) (w : Entries) → Turns s.clock x First (s.actors a)
    → Turns s.clock x First ((first s a x w).actors a)
first_turns s a x [] h = h
first_turns s a x (e ∷ es) h = turns_put s.clock x First s.actors a (goes x (Store (locations es)))
    (rests s.clock x First _ (λ g. g) (λ g. g) (λ g. g))

released_turns : (s : World) (a : ℕ) (x : Actor) (h : Entries) → Turns s.clock x Release (s.actors a)
    → Turns s.clock x Release ((released s a x h).actors a)
released_turns s a x [] same = same
released_turns s a x (e ∷ []) same = turns_put s.clock x Release s.actors a _ (rests s.clock x Release _ (λ g. g) (λ g. g) (λ g. g))
released_turns s a x (e ∷ (f ∷ es)) same = turns_put s.clock x Release s.actors a _ (rests s.clock x Release _ (λ g. g) (λ g. g) (λ g. g))

undone_turns : (s : World) (a : ℕ) (x : Actor) (h : Entries) → Turns s.clock x Undo (s.actors a)
    → Turns s.clock x Undo ((undone s a x h).actors a)
undone_turns s a x [] same = same
undone_turns s a x (e ∷ es) same = turns_put s.clock x Undo s.actors a _ (winds s.clock x Undo _ refl tt (λ g. g) (λ g. g))

step_turns : (s : World) (a : ℕ) (x : Actor) (p : Place) → (IsUnnumbered p → x.wv ≡ 0) → Turns s.clock x p (s.actors a)
    → Turns s.clock x p ((step s a x p).actors a)
step_turns s a x Idle none same = same
step_turns s a x Begin none same =
    turns_put s.clock x Begin s.actors a _ (turns_if (ltb s.clock clock_limit) s.clock x Begin (opened x.declared s.clock) (goes x Idle)
    (record { none = λ _. refl; kept = λ h. absurd h; ended = λ h. absurd h }) (rests s.clock x Begin _ (λ h. h) (λ h. h) (λ h. h)))
step_turns s a x Open none same = same
step_turns s a x (Look l) none same = looked_turns s a x l (s.locks l) none
step_turns s a x (Fetch l k) none same = turns_put s.clock x (Fetch l k) s.actors a (goes x (Again l k (s.values l)))
    (opens s.clock x (Fetch l k) _ refl none tt (λ h. h))
step_turns s a x (Again l k v) none same = again_turns s a x l k v (s.locks l) none
step_turns s a x (Lock []) none same =
    turns_put s.clock x (Lock []) s.actors a _ (record { none = λ h. absurd h; kept = λ _. inr (omega arith); ended = λ h. absurd h })
step_turns s a x (Lock (l ∷ ls)) none same = to_lock_turns s a x l ls (s.locks l) none
step_turns s a x (Take l k ls) none same = take_turns s a x l k ls (s.locks l) none
step_turns s a x (Check []) none same = same
step_turns s a x (Check (l ∷ ls)) none same = check_turns s a x l ls (s.locks l) (lookup x.writes l)
step_turns s a x Broken none same = same
step_turns s a x First none same = first_turns s a x x.writes same
step_turns s a x (Store []) none same = same
step_turns s a x (Store (l ∷ ls)) none same = turns_put s.clock x (Store (l ∷ ls)) s.actors a (goes x (Store ls))
    (rests s.clock x (Store (l ∷ ls)) _ (λ h. h) (λ h. h) (λ h. h))
step_turns s a x Release none same = released_turns s a x x.held same
step_turns s a x Undo none same = undone_turns s a x x.held same
step_turns s a x Leave none same = turns_put s.clock x Leave s.actors a (goes x Idle) (rests s.clock x Leave _ (λ h. h) (λ h. h) (λ h. h))
step_turns s a x Close none same = turns_put s.clock x Close s.actors a (goes x Idle) (rests s.clock x Close _ (λ h. h) (λ h. h) (λ h. h))

-- ---- the history
no_writer_insert : (n : ℕ) (r : Record) (h : List Record) → (r.writer ≡ true → r.number ≢ n) → NoWriterHas n h → NoWriterHas n (insert r h)
unfolding insert
no_writer_insert n r [] f g = (f, tt)
no_writer_insert n r (x ∷ xs) f g =
    elim (comes_before r x) as (λ b. NoWriterHas n (cond b (r ∷ (x ∷ xs)) (x ∷ insert r xs))) [
      | true ↦ (f, g)
      | false ↦
          (g.0, no_writer_insert n r xs f g.1)
    ]

exchanged_history : (s : World) (a l k : ℕ) (won lost : Actor) (w : LockWord) → (exchanged s a l k won lost w).history ≡ s.history
exchanged_history s a l k won lost (Free j) =
    elim (eqb j k) as (λ b. (cond b (record (now s a won) { locks = put s.locks l (Locked k) }) (now s a lost)).history
    ≡ s.history) [ true ↦ refl | false ↦ refl ]
exchanged_history s a l k won lost (Locked j) = refl

does_history : (s : World) (a : ℕ) (d : Deed) → (does s a d).history ≡ s.history
does_history s a Rests = refl
does_history s a (LoadClock f) = refl
does_history s a (AddToClock f) = refl
does_history s a (LoadLock l f) = refl
does_history s a (LoadValue l f) = refl
does_history s a (ExchangeLock l k won lost) = exchanged_history s a l k won lost (s.locks l)
does_history s a (StoreValue l v y) = refl
does_history s a (StoreLock l w y) = refl

first_listed : (n a : ℕ) (t : World) (x : Actor) (w : Entries) → (x.wv ≡ n → ⊥) → NoWriterHas n t.history
    → NoWriterHas n (noted t (first_step_end a x w)).history
first_listed n a t x [] f g = g
first_listed n a t x (e ∷ es) f g = no_writer_insert n (record { actor = a; number = x.wv; writer = true; calls = x.calls }) t.history
    (λ _. f) g

noted_listed : (n a : ℕ) (t : World) (x : Actor) (p : Place) → (p ≡ First → x.wv ≡ n → ⊥) → NoWriterHas n t.history
    → NoWriterHas n (noted t (step_end a x p)).history
noted_listed n a t x First f g = first_listed n a t x x.writes (f refl) g
noted_listed n a t x Close f g =
    no_writer_insert n (record { actor = a; number = x.rv; writer = false; calls = x.calls }) t.history
    (λ (w : false ≡ true). let b : ⊥ = cc in absurd b) g
noted_listed n a t x p f g = g

-- ---- an event
-- no writer gets a number in the history by it but its own actor, by the first value store
event_listed : (s : World) (e : Event) (n : ℕ) → ((s.actors (whose e)).place ≡ First → (s.actors (whose e)).wv ≡ n → ⊥)
    → NoWriterHas n s.history
    → NoWriterHas n (happens s e).history
event_listed s (Ask a request) n f g = g
event_listed s (Step a) n f g =
    let x = s.actors a in
    noted_listed n a (does s a (plan x x.place)) x x.place f (subst (NoWriterHas n) (sym (does_history s a (plan x x.place))) g)

event_turns : (s : World) (e : Event) → NumberOk s (s.actors (whose e))
    → Turns s.clock (s.actors (whose e)) (s.actors (whose e)).place ((happens s e).actors (whose e))
event_turns s (Ask a request) ok =
    let x = s.actors a in
    turns_put s.clock x x.place s.actors a (ask x x.place request) (ask_turns s.clock x x.place request refl ok.none)
event_turns s (Step a) ok = let x = s.actors a in step_turns s a x x.place ok.none (stays s.clock x x.place refl ok.none)

event_other : (s : World) (e : Event) (b : ℕ) → b ≢ whose e → (happens s e).actors b ≡ s.actors b
event_other s (Ask a request) b ne = put-other s.actors a (ask (s.actors a) (s.actors a).place request) b ne
event_other s (Step a) b ne = step_other s a b ne

-- what is spent remains so
spent_kept : (s : World) (e : Event) (n : ℕ) → Inv s → NumberOk s (s.actors (whose e)) → Spent s n → Spent (happens s e) n
spent_kept s e n v ok g =
    let t = happens s e in
    let a = whose e in
    let later = (happens_ok s e v).keeps.clock in
    record {
      past = (let h = g.past in omega (arith, h, later));
      listed = event_listed s e n (λ at_first. g.pending a (subst IsPending (sym at_first) tt)) g.listed;
      pending = λ b at_p is.
          elim (cases_eq b a) [
            | inl q ↦
                let mine : IsPending (t.actors a).place = subst (λ (i : ℕ). IsPending (t.actors i).place) q at_p in
                let has : (t.actors a).wv ≡ n = subst (λ (i : ℕ). (t.actors i).wv ≡ n) q is in
                elim ((event_turns s e ok).kept mine) [
                  | inl old ↦ g.pending a old.0 (old.1 ∙ has)
                  | inr new ↦ (let h = g.past in let b : ⊥ = omega (arith, new, has, h) in b)
                ]
            | inr ne ↦
                let same = event_other s e b ne in
                g.pending b (subst (λ (y : Actor). IsPending y.place) same at_p) (ap (λ (y : Actor). y.wv) (sym same) ∙ is)
          ];
    }

-- nobody gets 0
none_has : (s : World) (h : List Record) → AllRecords (RecordOk s) h → NoWriterHas 0 h
none_has s [] g = tt
none_has s (r ∷ rs) g = (λ w is. (let m = (g.0).positive w in let b : ⊥ = omega (arith, m, is) in b), none_has s rs g.1)

spent_none : (s : World) → Inv s → Spent s 0
spent_none s v = record {
  past = omega arith;
  listed = none_has s s.history v.records;
  pending = λ b at_p is. (let m = (stamp_of s b v at_p).after_rv in let b : ⊥ = omega (arith, m, is) in b);
}

-- the number of a commit that aborts was nobody else's
unused_listed : (n : ℕ) (h : List Record) → AllRecords (λ r. (r.writer ≡ true → n ≡ r.number → ⊥)) h → NoWriterHas n h
unused_listed n [] g = tt
unused_listed n (r ∷ rs) g = (λ w is. g.0 w (sym is), unused_listed n rs g.1)

is_pending : (p : Place) → IsChecking p → IsPending p
is_pending (Check ls) h = tt
is_pending p h = absurd h

not_both : (p : Place) → IsEnding p → IsPending p → ⊥
not_both (Check ls) h g = h
not_both First h g = h
not_both p h g = g

spent_given : (s : World) (e : Event) → Inv s → IsChecking (s.actors (whose e)).place
    → IsEnding ((happens s e).actors (whose e)).place
    → Spent (happens s e) (s.actors (whose e)).wv
spent_given s e v at_check ends =
    let t = happens s e in
    let a = whose e in
    let x = s.actors a in
    let later = (happens_ok s e v).keeps.clock in
    let at_p = is_pending x.place at_check in
    record {
      past = (let m = (stamp_of s a v at_p).made in omega (arith, m, later));
      listed = event_listed s e x.wv (λ at_first _. subst IsChecking at_first at_check) (unused_listed x.wv s.history (v.unused a at_p));
      pending = λ b at_q is.
          elim (cases_eq b a) [
            | inl q ↦ not_both (t.actors a).place ends (subst (λ (i : ℕ). IsPending (t.actors i).place) q at_q)
            | inr ne ↦
                let same = event_other s e b ne in
                ne (v.numbers b a (subst (λ (y : Actor). IsPending y.place) same at_q) at_p (ap (λ (y : Actor). y.wv) (sym same) ∙ is))
          ];
    }

-- ---- every schedule
abbrev AllNumberOk : World → Type 0
AllNumberOk s = (a : ℕ) → NumberOk s (s.actors a)

number_own : (s : World) (e : Event) → Inv s → NumberOk s (s.actors (whose e))
    → NumberOk (happens s e) ((happens s e).actors (whose e))
number_own s e v ok =
    let t = happens s e in
    let x = s.actors (whose e) in
    let y = t.actors (whose e) in
    let turns = event_turns s e ok in
    record {
      none = turns.none;
      spent = λ ends. (let from = turns.ended ends in subst (Spent t) from.1 (elim from.0 [
        | inl none ↦ subst (Spent t) (sym (ok.none none)) (spent_none t (happens_ok s e v).inv)
        | inr more ↦ elim more [ inl checks ↦ spent_given s e v checks ends | inr ended ↦ spent_kept s e x.wv v ok (ok.spent ended) ]
      ]));
    }

number_kept : (s : World) (e : Event) → Inv s → AllNumberOk s → AllNumberOk (happens s e)
number_kept s e v all b =
    let t = happens s e in
    let a = whose e in
    elim (cases_eq b a) [
      | inl q ↦ subst (λ (i : ℕ). NumberOk t (t.actors i)) (sym q) (number_own s e v (all a))
      | inr ne ↦
          subst (NumberOk t) (sym (event_other s e b ne))
          (record { none = (all b).none; spent = λ h. spent_kept s e (s.actors b).wv v (all a) ((all b).spent h) })
    ]

run_number : (events : List Event) (s : World) → Inv s → AllNumberOk s → AllNumberOk (run events s)
run_number [] s v all = all
run_number (e ∷ es) s v all = run_number es (happens s e) (happens_ok s e v).inv (number_kept s e v all)

run_spent : (events : List Event) (s : World) (n : ℕ) → Inv s → AllNumberOk s → Spent s n → Spent (run events s) n
run_spent [] s n v all g = g
run_spent (e ∷ es) s n v all g = run_spent es (happens s e) n (happens_ok s e v).inv (number_kept s e v all)
    (spent_kept s e n v (all (whose e)) g)

all_numbers : (clock : ℕ) (memory : Memory) (events : List Event) → AllNumberOk (run events (start clock memory))
all_numbers clock memory events = run_number events (start clock memory) (start_ok clock memory)
    (λ b. record { none = λ h. absurd h; spent = λ h. absurd h })

pub unused_later : (clock : ℕ) (memory : Memory) (events later : List Event) (a : ℕ)
    → IsEnding ((run events (start clock memory)).actors a).place
    → NoWriterHas ((run events (start clock memory)).actors a).wv (run later (run events (start clock memory))).history
unused_later clock memory events later a ends =
    let s = run events (start clock memory) in
    let all = all_numbers clock memory events in
    (run_spent later s (s.actors a).wv (reached clock memory events) all ((all a).spent ends)).listed

-- while a transaction can abort, no writer has its number
unused_where : (s : World) (a : ℕ) → Inv s → NumberOk s (s.actors a) → GivesUp (s.actors a).place
    → NoWriterHas (s.actors a).wv s.history
unused_where s a v ok at =
    let x = s.actors a in
    elim at [
      | inl none ↦ subst (λ (n : ℕ). NoWriterHas n s.history) (sym (ok.none none)) (spent_none s v).listed
      | inr more ↦ elim more [
        | inl checks ↦ unused_listed x.wv s.history (v.unused a (is_pending x.place checks))
        | inr ended ↦ (ok.spent ended).listed
      ]
    ]

pub unused_yet : (clock : ℕ) (memory : Memory) (events : List Event) (a : ℕ)
    → GivesUp ((run events (start clock memory)).actors a).place
    → NoWriterHas ((run events (start clock memory)).actors a).wv (run events (start clock memory)).history
unused_yet clock memory events a at =
    unused_where (run events (start clock memory)) a (reached clock memory events) (all_numbers clock memory events a) at
