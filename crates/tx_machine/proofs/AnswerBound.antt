-- A request is answered by the time that its steps are done.
use Rattle.std.proofs.Common.{◌≡◌, ℕ, ◌+◌, ◌<◌, ◌≤◌, Bool, true, false, eqb, ltb, leb, Option, Some, None, List, [], ◌∷◌, ◌⊎◌, inl, inr}
use Rattle.std.proofs.Common.{length, refl, sym, ap, ◌∙◌, subst, arith}
use Rattle.std.specs.Prelude.{if◌then◌else◌}
use Rattle.std.proofs.lemmas.Bool.{cond-true, cond-false, cases_eq}
use Rattle.std.proofs.Common.{eq-eqb, ne_eqb}
use Rattle.vlock_word.specs.declared.lock_word.LockWord.{LockWord}
use Rattle.vlock_word.specs.declared.lock_word.LockWord.TheVariants.{Free, Locked}
use Rattle.vlock_word.specs.LockWord.{bits}
use Rattle.tx_sets.specs.Entries.{Entries, lookup, locations}
use Rattle.tx_machine.specs.Actor.{Place, Idle, Begin, Open, Look, Fetch, Again, Lock, Take, Check, Broken, First, Store, Release, Undo}
use Rattle.tx_machine.specs.Actor.{Leave, Close, Actor, goes, taken, clock_limit, to_check}
use Rattle.tx_machine.specs.World.{World, Event, Ask, Step, Deed, Rests, LoadClock, AddToClock, LoadLock, LoadValue, ExchangeLock}
use Rattle.tx_machine.specs.World.{StoreValue, StoreLock, does, exchanged, StepEnd, GoesOn, Commits, Aborts, noted, plan, step_end, put}
use Rattle.tx_machine.specs.World.{now, step, happens}
use Rattle.tx_machine.specs.Notices.{Notice, Quiet, Moved, Busy, Invalid, Begun, Exhausted, Number, LockedAt, Stored, Released, Cancelled}
use Rattle.tx_machine.specs.Notices.{notice, look_notice, again_notice, lock_notice, take_notice, check_notice, when_none_left}
use Rattle.tx_machine.specs.Notices.{last_notice}
use Rattle.tx_machine.specs.Progress.{steps_left, IsAnswered, steps_of, AsksNothing, IsAnsweredWithin}
use Rattle.tx_machine.proofs.Worlds.{looked, to_lock, locked, tried, checked, first, released, undone}
use Rattle.tx_machine.proofs.Sets.{put-same, put-other}
use Rattle.tx_machine.proofs.Invariant.{IsSomeEntry, PlaceOk, Inv}
use Rattle.tx_machine.proofs.Schedules.{happens_ok}
use Rattle.tx_machine.proofs.Progress.{progress, length-locations}

-- the request is answered, or continues
abbrev pub Further : Notice → Actor → Type 0
Further n y = IsAnswered n ⊎ (0 < steps_left y y.place)

further_put : (n : Notice) (actors : ℕ → Actor) (a : ℕ) (y : Actor) → Further n y → Further n (put actors a y a)
further_put n actors a y h = subst (Further n) (sym (put-same actors a y)) h

further_if : (b : Bool) (m n : Notice) (y z : Actor) → Further m y → Further n z → Further (if b then m else n) (if b then y else z)
further_if true m n y z f g = f
further_if false m n y z f g = g

further_world : (b : Bool) (m n : Notice) (s t : World) (a : ℕ) → Further m (s.actors a) → Further n (t.actors a)
    → Further (if b then m else n) ((if b then s else t).actors a)
further_world true m n s t a f g = f
further_world false m n s t a f g = g

looked_further : (s : World) (a : ℕ) (x : Actor) (l : ℕ) (w : LockWord) → Further (look_notice x.rv l w) ((looked s a x l w).actors a)
looked_further s a x l (Free k) = further_put (look_notice x.rv l (Free k)) s.actors a _
    (further_if (leb k x.rv) Quiet (Moved l (bits (Free k))) (goes x (Fetch l k)) (goes x Undo) (inr (omega arith)) (inl tt))
looked_further s a x l (Locked k) = inl tt

again_answered : (s : World) (l k v : ℕ) (w : LockWord) → IsAnswered (again_notice l k v w)
again_answered s l k v (Free j) = go (eqb j k)
  where
    go : (b : Bool) → IsAnswered (if b then Number v else Moved l (bits (Free j)))
    go true = tt
    go false = tt
again_answered s l k v (Locked j) = tt

to_lock_further : (s : World) (a : ℕ) (x : Actor) (l : ℕ) (ls : List ℕ) (w : LockWord)
    → Further (lock_notice l w) ((to_lock s a x l ls w).actors a)
to_lock_further s a x l ls (Free k) = further_put Quiet s.actors a (goes x (Take l k ls)) (inr (omega arith))
to_lock_further s a x l ls (Locked k) = inl tt

take_further : (s : World) (a : ℕ) (x : Actor) (l k : ℕ) (ls : List ℕ) (w : LockWord)
    → Further (take_notice l k w) ((tried s a x l k ls w).actors a)
take_further s a x l k ls (Free j) =
    further_world (eqb j k) Quiet (Busy l (bits (Free j))) (locked s a x l k ls) (now s a (goes x Broken)) a
    (further_put Quiet s.actors a (taken x l k ls) (inr (omega arith))) (inl tt)
take_further s a x l k ls (Locked j) = inl tt

-- an answer where none is left, else some are
none_left : {A : Type 0} → (xs : List A) (n : Notice) → IsAnswered n → IsAnswered (when_none_left xs n) ⊎ (0 < length xs)
none_left [] n h = inl h
none_left (x ∷ xs) n h = inr (omega arith)

check_further : (s : World) (a : ℕ) (x : Actor) (l : ℕ) (ls : List ℕ) (w : LockWord) (own : Option ℕ)
    → Further (check_notice x.rv x.wv l ls w own) ((checked s a x l ls w own).actors a)
check_further s a x l ls (Free k) own =
    further_put (check_notice x.rv x.wv l ls (Free k) own) s.actors a _
    (further_if (leb k x.rv) (when_none_left ls (LockedAt x.wv)) (Invalid l (bits (Free k))) (goes x (Check ls)) (goes x Broken)
    (none_left ls (LockedAt x.wv) tt) (inl tt))
check_further s a x l ls (Locked k) (Some old) =
    further_put (check_notice x.rv x.wv l ls (Locked k) (Some old)) s.actors a _
    (further_if (leb k x.rv) (when_none_left ls (LockedAt x.wv)) (Invalid l (bits (Locked k))) (goes x (Check ls)) (goes x Broken)
    (none_left ls (LockedAt x.wv) tt) (inl tt))
check_further s a x l ls (Locked k) None = inl tt

first_further : (s : World) (a : ℕ) (x : Actor) (w : Entries) → IsSomeEntry w → Further (last_notice w Stored) ((first s a x w).actors a)
first_further s a x [] n = absurd n
first_further s a x (e ∷ es) n =
    further_put (when_none_left es Stored) s.actors a (goes x (Store (locations es)))
    (elim (none_left es Stored tt) [ inl h ↦ inl h | inr h ↦ inr (let q = length-locations es in omega (arith, q, h)) ])

released_further : (s : World) (a : ℕ) (x : Actor) (h : Entries) → IsSomeEntry h
    → Further (last_notice h Released) ((released s a x h).actors a)
released_further s a x [] n = absurd n
released_further s a x (e ∷ []) n = inl tt
released_further s a x (e ∷ (f ∷ es)) n = subst (Further Quiet) (sym (put-same s.actors a _)) (inr (omega arith))

undone_further : (s : World) (a : ℕ) (x : Actor) (h : Entries) → Further (last_notice h Cancelled) ((undone s a x h).actors a)
undone_further s a x [] = inl tt
undone_further s a x (e ∷ []) = inl tt
undone_further s a x (e ∷ (f ∷ es)) = subst (Further Quiet) (sym (put-same s.actors a _)) (inr (omega arith))

pub step_further : (s : World) (a : ℕ) (x : Actor) (p : Place) → PlaceOk s x p → Further (notice s x p) ((step s a x p).actors a)
step_further s a x Idle pl = inl tt
step_further s a x Begin pl = inl (go (ltb s.clock clock_limit))
  where
    go : (b : Bool) → IsAnswered (if b then Begun s.clock else Exhausted s.clock)
    go true = tt
    go false = tt
step_further s a x Open pl = inl tt
step_further s a x (Look l) pl = looked_further s a x l (s.locks l)
step_further s a x (Fetch l k) pl = further_put Quiet s.actors a (goes x (Again l k (s.values l))) (inr (omega arith))
step_further s a x (Again l k v) pl = inl (again_answered s l k v (s.locks l))
step_further s a x (Lock []) pl =
    subst (Further (when_none_left (to_check x (s.clock + 1)) (LockedAt (s.clock + 1)))) (sym (put-same s.actors a _))
    (none_left (to_check x (s.clock + 1)) (LockedAt (s.clock + 1)) tt)
step_further s a x (Lock (l ∷ ls)) pl = to_lock_further s a x l ls (s.locks l)
step_further s a x (Take l k ls) pl = take_further s a x l k ls (s.locks l)
step_further s a x (Check []) pl = inl tt
step_further s a x (Check (l ∷ ls)) pl = check_further s a x l ls (s.locks l) (lookup x.writes l)
step_further s a x Broken pl = inl tt
step_further s a x First pl = first_further s a x x.writes (pl.0).some
step_further s a x (Store []) pl = inl tt
step_further s a x (Store (l ∷ ls)) pl = further_put (when_none_left ls Stored) s.actors a (goes x (Store ls)) (none_left ls Stored tt)
step_further s a x Release pl = released_further s a x x.held pl.some
step_further s a x Undo pl = undone_further s a x x.held
step_further s a x Leave pl = inl tt
step_further s a x Close pl = inl tt

-- a step of another leaves an actor's record
does_other : (s : World) (b a : ℕ) (deed : Deed) → (a ≡ b → ⊥) → (does s b deed).actors a ≡ s.actors a
does_other s b a Rests ne = refl
does_other s b a (LoadClock f) ne = put-other s.actors b (f s.clock) a ne
does_other s b a (AddToClock f) ne = put-other s.actors b (f s.clock) a ne
does_other s b a (LoadLock l f) ne = put-other s.actors b (f (s.locks l)) a ne
does_other s b a (LoadValue l f) ne = put-other s.actors b (f (s.values l)) a ne
does_other s b a (ExchangeLock l k x y) ne = go (s.locks l)
  where
    pick : (c : Bool) (t u : World) → t.actors a ≡ s.actors a → u.actors a ≡ s.actors a → (if c then t else u).actors a ≡ s.actors a
    pick true t u f g = f
    pick false t u f g = g

    go : (w : LockWord) → (exchanged s b l k x y w).actors a ≡ s.actors a
    go (Free j) = pick (eqb j k) (does s b (StoreLock l (Locked k) x)) (now s b y) (put-other s.actors b x a ne)
        (put-other s.actors b y a ne)
    go (Locked j) = put-other s.actors b y a ne
does_other s b a (StoreValue l v x) ne = put-other s.actors b x a ne
does_other s b a (StoreLock l w x) ne = put-other s.actors b x a ne

noted_same : (s : World) (o : StepEnd) (a : ℕ) → (noted s o).actors a ≡ s.actors a
noted_same s GoesOn a = refl
noted_same s (Commits r) a = refl
noted_same s (Aborts e) a = refl

pub step_other : (s : World) (b a : ℕ) → (a ≡ b → ⊥) → (happens s (Step b)).actors a ≡ s.actors a
step_other s b a ne =
    let x = s.actors b in
    noted_same (does s b (plan x x.place)) (step_end b x x.place) a ∙ does_other s b a (plan x x.place) ne

abbrev Left : World → ℕ → ℕ
Left s a = steps_left (s.actors a) (s.actors a).place

pub answered : (later : List Event) (s : World) (a : ℕ) → Inv s → 0 < Left s a → AsksNothing a later → Left s a ≤ steps_of a later
    → IsAnsweredWithin a later s
answered [] s a v h asks enough = absurd (omega (arith, h, enough))
answered (Ask b request ∷ es) s a v h asks enough =
    let t : World = happens s (Ask b request) in
    let same : Left t a ≡ Left s a = ap (λ (x : Actor). steps_left x x.place) (put-other s.actors b _ a (λ e. asks.0 (sym e))) in
    answered es t a (happens_ok s (Ask b request) v).inv (omega (arith, h, same)) asks.1 (omega (arith, enough, same))
answered (Step b ∷ es) s a v h asks enough =
    elim (cases_eq b a) [
      | inl e ↦
          let own : IsAnswered (notice s (s.actors a) (s.actors a).place) ⊎ (0 < Left (happens s (Step a)) a) = step_further s a
          (s.actors a) (s.actors a).place (v.actors a).place in
          elim own [
            | inl n ↦ inl (e, n)
            | inr more ↦
                let count : steps_of a (Step b ∷ es)
                ≡ steps_of a es + 1 = cond-true (eqb b a) (steps_of a es + 1) (steps_of a es) (eq-eqb b a e) in
                let less : Left (happens s (Step a)) a < Left s a = progress s a v h in
                inr (subst (λ (n : ℕ). IsAnsweredWithin a es (happens s (Step n))) (sym e)
                (answered es (happens s (Step a)) a (happens_ok s (Step a) v).inv more asks (omega (arith, enough, count, less))))
          ]
      | inr ne ↦
          let t : World = happens s (Step b) in
          let count : steps_of a (Step b ∷ es) ≡ steps_of a es = cond-false (eqb b a) (steps_of a es + 1) (steps_of a es) (ne_eqb b a ne) in
          let same : Left t a ≡ Left s a = ap (λ (x : Actor). steps_left x x.place) (step_other s b a (λ e. ne (sym e))) in
          inr (answered es t a (happens_ok s (Step b) v).inv (omega (arith, h, same)) asks (omega (arith, enough, count, same)))
    ]
