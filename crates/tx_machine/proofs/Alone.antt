-- A transaction beside which no other steps is never refused for a conflict.
use Rattle.std.proofs.Common.{◌≡◌, ℕ, ◌+◌, ◌<◌, ◌≤◌, cond, Bool, true, false, eqb, ltb, leb, Option, Some, None, List, [], ◌∷◌, ◌++◌, ◌⊎◌}
use Rattle.std.proofs.Common.{inl, inr, refl, sym, ap, ◌∙◌, subst, arith, ltb-true, ltb-false, eqb-true, leb-false}
use Rattle.std.proofs.lemmas.Bool.{eqb-false, cond_both}
use Rattle.vlock_word.specs.declared.lock_word.LockWord.{LockWord}
use Rattle.vlock_word.specs.declared.lock_word.LockWord.TheVariants.{Free, Locked}
use Rattle.vlock_word.specs.LockWord.{version_of, bits}
use Rattle.tx_sets.specs.Entries.{Entries, lookup, with_entry, locations}
use Rattle.tx_machine.specs.Actor.{Place, Idle, Begin, Open, Look, Fetch, Again, Lock, Take, Check, Broken, First, Store, Release, Undo}
use Rattle.tx_machine.specs.Actor.{Leave, Close, Actor, goes, opened, clock_limit, has_read, to_check}
use Rattle.tx_machine.specs.Requests.{Request, AskBegin, AskBeginRead, AskLock, AskStore, AskRelease, AskCancel, AskAbort, AskClose}
use Rattle.tx_machine.specs.Requests.{AskRead, AskWrite, read, write, lock, close, abort, ask}
use Rattle.tx_machine.specs.World.{put, World, Event, Ask, Step, now, step, happens, run}
use Rattle.tx_machine.proofs.Worlds.{looked, looked_again, to_lock, tried, locked, checked, first, released, undone}
use Rattle.tx_machine.specs.Progress.{IsAlone, IsFree}
use Rattle.tx_machine.specs.Notices.{Notice, Quiet, Begun, Exhausted, Moved, Busy, Invalid, Number, LockedAt, Stored, Released, Cancelled}
use Rattle.tx_machine.specs.Notices.{IsConflict, notice, look_notice, again_notice, lock_notice, take_notice, check_notice}
use Rattle.tx_machine.specs.Notices.{when_none_left, last_notice}
use Rattle.tx_machine.proofs.Sets.{Member, put-same, put_both, lookup-push_same, lookup-push_other, lookup-tail}
use Rattle.tx_machine.proofs.Invariant.{PlaceOk, Inv}
use Rattle.tx_machine.proofs.Quiet.{none_if, lookup-none}
use Rattle.tx_machine.proofs.Schedules.{happens_ok}

-- written locations rise
abbrev pub AllAbove : ℕ → Entries → Type 0
AllAbove l [] = Unit {0}
AllAbove l (e ∷ es) = (l < e.0) × AllAbove l es

abbrev pub Rising : Entries → Type 0
Rising [] = Unit {0}
Rising (e ∷ es) = AllAbove e.0 es × Rising es

above_more : (k l : ℕ) (es : Entries) → k < l → AllAbove l es → AllAbove k es
above_more k l [] h a = tt
above_more k l (e ∷ es) h a = (omega (arith, h, a.0), above_more k l es h a.1)

above-with_entry : (k : ℕ) (es : Entries) (l v : ℕ) → k < l → AllAbove k es → AllAbove k (with_entry es l v)
unfolding with_entry
above-with_entry k [] l v h a = (h, tt)
above-with_entry k (e ∷ es) l v h a =
    cond_both (ltb l e.0) ((l, v) ∷ (e ∷ es)) _ (AllAbove k) (λ _. (h, a))
    (λ _. cond_both (eqb l e.0) ((l, v) ∷ es) (e ∷ with_entry es l v) (AllAbove k) (λ _. (h, a.1))
    (λ _. (a.0, above-with_entry k es l v h a.1)))

rising-with_entry : (es : Entries) (l v : ℕ) → Rising es → Rising (with_entry es l v)
unfolding with_entry
rising-with_entry [] l v r = (tt, tt)
rising-with_entry (e ∷ es) l v r =
    cond_both (ltb l e.0) ((l, v) ∷ (e ∷ es)) _ Rising (λ t. (let h = ltb-true l e.0 t in ((h, above_more l e.0 es h r.0), r)))
    (λ t. cond_both (eqb l e.0) ((l, v) ∷ es) (e ∷ with_entry es l v) Rising
    (λ q. (subst (λ (n : ℕ). AllAbove n es) (sym (eqb-true l e.0 q)) r.0, r.1))
    (λ q. (
      above-with_entry e.0 es l v (let a = ltb-false l e.0 t in let b = eqb-false l e.0 q in omega
          (arith, a, b)) r.0,
      rising-with_entry es l v r.1,
    )))

abbrev pub Distinct : List ℕ → Type 0
Distinct [] = Unit {0}
Distinct (l ∷ ls) = (Member l ls → ⊥) × Distinct ls

above_member : (k l : ℕ) (es : Entries) → AllAbove k es → Member l (locations es) → k < l
unfolding locations
above_member k l [] a m = absurd m
above_member k l (e ∷ es) a m = elim m [ inl q ↦ omega (arith, q, a.0) | inr n ↦ above_member k l es a.1 n ]

rising_distinct : (es : Entries) → Rising es → Distinct (locations es)
unfolding locations
rising_distinct [] r = tt
rising_distinct (e ∷ es) r = (λ m. (let h = above_member e.0 e.0 es r.0 m in omega (arith, h)), rising_distinct es r.1)

abbrev pub Low : (ℕ → LockWord) → Actor → Type 0
Low locks x = (l : ℕ) → version_of (locks l) ≤ x.rv

abbrev pub AlonePlace : (ℕ → LockWord) → Actor → Place → Type 0
AlonePlace locks x Open = Low locks x × Rising x.writes
AlonePlace locks x (Look l) = Low locks x × Rising x.writes
AlonePlace locks x (Fetch l k) = Low locks x × Rising x.writes × (locks l ≡ Free k)
AlonePlace locks x (Again l k v) = Low locks x × Rising x.writes × (locks l ≡ Free k)
AlonePlace locks x (Lock ls) = Low locks x × Distinct ls × ((l : ℕ) → Member l ls → lookup x.held l ≡ None)
AlonePlace locks x (Take l k ls) = Low locks x × Distinct (l ∷ ls) × ((i : ℕ) → Member i (l ∷ ls) → lookup x.held i ≡ None)
    × (locks l ≡ Free k)
AlonePlace locks x (Check ls) = Low locks x
AlonePlace locks x p = Unit {0}

-- Every lock is free, or this actor's.
pub record AloneOk (locks : ℕ → LockWord) (x : Actor) : Type 0 where
  pub free : (l : ℕ) → IsFree (locks l) ⊎ ((k : ℕ) × (lookup x.held l ≡ Some k))
  pub place : AlonePlace locks x x.place

goes_alone : (locks : ℕ → LockWord) (x : Actor) (q : Place) → AloneOk locks x → AlonePlace locks (goes x q) q → AloneOk locks (goes x q)
goes_alone locks x q ok pl = record { free = ok.free; place = pl }

read_alone : (locks : ℕ → LockWord) (x : Actor) (l : ℕ) (w r : Option ℕ) → AloneOk locks x → AlonePlace locks x Open
    → AloneOk locks (read x l w r)
read_alone locks x l (Some v) r ok pl = record { free = ok.free; place = pl }
read_alone locks x l None (Some v) ok pl = record { free = ok.free; place = pl }
read_alone locks x l None None ok pl = record { free = ok.free; place = pl }

write_alone : (locks : ℕ → LockWord) (x : Actor) (declared : Bool) (l u : ℕ) → AloneOk locks x → AlonePlace locks x Open
    → AloneOk locks (write x declared l u)
write_alone locks x true l u ok pl = ok
write_alone locks x false l u ok pl = record { free = ok.free; place = (pl.0, rising-with_entry x.writes l u pl.1) }

lock_alone : (locks : ℕ → LockWord) (x : Actor) (w : Entries) → AloneOk locks x → AlonePlace locks x Open → x.held ≡ [] → x.writes ≡ w
    → AloneOk locks (lock x w)
lock_alone locks x [] ok pl none e = ok
lock_alone locks x (f ∷ fs) ok pl none e = goes_alone locks x (Lock (locations (f ∷ fs))) ok
    (pl.0, rising_distinct (f ∷ fs) (subst Rising e pl.1), λ l m. none_if (lookup x.held l) (λ k h. lookup-none x.held l k none h))

close_alone : (locks : ℕ → LockWord) (x : Actor) (w : Entries) → AloneOk locks x → AloneOk locks (close x w)
close_alone locks x [] ok = goes_alone locks x Close ok tt
close_alone locks x (f ∷ fs) ok = ok

abort_alone : (locks : ℕ → LockWord) (x : Actor) (w : Entries) → AloneOk locks x → AloneOk locks (abort x w)
abort_alone locks x [] ok = goes_alone locks x Leave ok tt
abort_alone locks x (f ∷ fs) ok = ok

ask_alone : (s : World) (x : Actor) (p : Place) (request : Request) → AloneOk s.locks x → AlonePlace s.locks x p → PlaceOk s x p
    → AloneOk s.locks (ask x p request)
ask_alone s x Idle AskBegin ok pl at_p = record { free = ok.free; place = tt }
ask_alone s x Idle AskBeginRead ok pl at_p = record { free = ok.free; place = tt }
ask_alone s x Open (AskRead l) ok pl at_p = read_alone s.locks x l (lookup x.writes l) (lookup x.reads l) ok pl
ask_alone s x Open (AskWrite l u) ok pl at_p = write_alone s.locks x x.declared l u ok pl
ask_alone s x Open AskLock ok pl at_p = lock_alone s.locks x x.writes ok pl at_p refl
ask_alone s x Open AskClose ok pl at_p = close_alone s.locks x x.writes ok
ask_alone s x Open AskAbort ok pl at_p = goes_alone s.locks x Leave ok tt
ask_alone s x (Look l) AskAbort ok pl at_p = goes_alone s.locks x Leave ok tt
ask_alone s x (Fetch l k) AskAbort ok pl at_p = goes_alone s.locks x Leave ok tt
ask_alone s x (Again l k v) AskAbort ok pl at_p = goes_alone s.locks x Leave ok tt
ask_alone s x Close AskAbort ok pl at_p = goes_alone s.locks x Leave ok tt
ask_alone s x Begin AskAbort ok pl at_p = goes_alone s.locks x Idle ok tt
ask_alone s x (Lock ls) AskCancel ok pl at_p = goes_alone s.locks x Undo ok tt
ask_alone s x (Take l k ls) AskCancel ok pl at_p = goes_alone s.locks x Undo ok tt
ask_alone s x (Check ls) AskCancel ok pl at_p = goes_alone s.locks x Undo ok tt
ask_alone s x Broken AskCancel ok pl at_p = goes_alone s.locks x Undo ok tt
ask_alone s x (Check []) AskStore ok pl at_p = goes_alone s.locks x First ok tt
ask_alone s x (Store []) AskRelease ok pl at_p = goes_alone s.locks x Release ok tt
ask_alone s x Undo AskAbort ok pl at_p = abort_alone s.locks x x.held ok
ask_alone s x p request ok pl at_p = ok

abbrev pub AloneAt : World → ℕ → Type 0
AloneAt s a = AloneOk s.locks (s.actors a)

-- the next notice is no conflict, and the actor is as alone as before
abbrev Good : World → World → ℕ → Notice → Type 0
Good s t a n = AloneAt t a × (IsConflict n → ⊥)

alone_put : (locks : ℕ → LockWord) (actors : ℕ → Actor) (a : ℕ) (y : Actor) → AloneOk locks y → AloneOk locks (put actors a y a)
alone_put locks actors a y ok = subst (AloneOk locks) (sym (put-same actors a y)) ok

quiet_list : {A : Type 0} → (xs : List A) (n : Notice) → (IsConflict n → ⊥) → IsConflict (when_none_left xs n) → ⊥
quiet_list [] n h = h
quiet_list (x ∷ xs) n h = λ g. g

last_quiet : (es : Entries) (n : Notice) → (IsConflict n → ⊥) → IsConflict (last_notice es n) → ⊥
last_quiet [] n h = λ g. g
last_quiet (e ∷ es) n h = quiet_list es n h

-- a free word of the lock table, where this actor holds none of it
free_word : (w : LockWord) (h : Entries) (l : ℕ) → IsFree w ⊎ ((k : ℕ) × (lookup h l ≡ Some k)) → lookup h l ≡ None → IsFree w
free_word w h l f none = elim f [ inl q ↦ q | inr q ↦ (let z : Some q.0 ≡ None = sym q.1 ∙ none in absurd (let b : ⊥ = cc in b)) ]

look_alone : (s : World) (a l : ℕ) (w : LockWord) → AloneAt s a → (s.actors a).held ≡ [] → AlonePlace s.locks (s.actors a) (Look l)
    → s.locks l ≡ w → Good s (looked s a (s.actors a) l w) a (look_notice (s.actors a).rv l w)
look_alone s a l (Free k) ok none pl is =
    let x = s.actors a in
    let low : k ≤ x.rv = (let q = ap version_of is in omega (arith, q, pl.0 l)) in (
      cond_both (leb k x.rv) (goes x (Fetch l k)) (goes x Undo) (λ (z : Actor). AloneAt (now s a z) a)
          (λ _. alone_put s.locks s.actors a (goes x (Fetch l k)) (goes_alone s.locks x (Fetch l k) ok (pl.0, pl.1, is)))
          (λ t. absurd (let q = leb-false k x.rv t in omega (arith, q, low))),
      cond_both (leb k x.rv) Quiet (Moved l (bits (Free k))) (λ (z : Notice). IsConflict z → ⊥) (λ _ h. h)
          (λ t _. let q = leb-false k x.rv t in omega (arith, q, low)),
    )
look_alone s a l (Locked k) ok none pl is = absurd
    (subst IsFree is (free_word (s.locks l) (s.actors a).held l (ok.free l)
    (none_if (lookup (s.actors a).held l) (λ j h. lookup-none (s.actors a).held l j none h))))

again_alone : (s : World) (a l k v : ℕ) (w : LockWord) → AloneAt s a → AlonePlace s.locks (s.actors a) (Again l k v) → s.locks l ≡ w
    → Good s (looked_again s a (s.actors a) l k v w) a (again_notice l k v w)
again_alone s a l k v (Free j) ok pl is =
    let x = s.actors a in
    let z : Free j ≡ Free k = sym is ∙ pl.2 in
    let same : j ≡ k = cc in (
      cond_both (eqb j k) (has_read x l v) (goes x Undo) (λ (y : Actor). AloneAt (now s a y) a)
          (λ _. alone_put s.locks s.actors a (has_read x l v) (record { free = ok.free; place = (pl.0, pl.1) }))
          (λ t. absurd (eqb-false j k t same)),
      cond_both (eqb j k) (Number v) (Moved l (bits (Free j))) (λ (y : Notice). IsConflict y → ⊥) (λ _ h. h) (λ t _. eqb-false j k t same),
    )
again_alone s a l k v (Locked j) ok pl is = let z : Locked j ≡ Free k = sym is ∙ pl.2 in absurd (let b : ⊥ = cc in b)

to_lock_alone : (s : World) (a l : ℕ) (ls : List ℕ) (w : LockWord) → AloneAt s a → AlonePlace s.locks (s.actors a) (Lock (l ∷ ls))
    → s.locks l ≡ w → Good s (to_lock s a (s.actors a) l ls w) a (lock_notice l w)
to_lock_alone s a l ls (Free k) ok pl is = (
  alone_put s.locks s.actors a (goes (s.actors a) (Take l k ls))
      (goes_alone s.locks (s.actors a) (Take l k ls) ok (pl.0, pl.1, pl.2, is)),
  λ h. h,
)
to_lock_alone s a l ls (Locked k) ok pl is = absurd
    (subst IsFree is (free_word (s.locks l) (s.actors a).held l (ok.free l) (pl.2 l (inl refl))))

locked_alone : (s : World) (a l k : ℕ) (ls : List ℕ) → AloneAt s a → AlonePlace s.locks (s.actors a) (Take l k ls)
    → AloneAt (locked s a (s.actors a) l k ls) a
locked_alone s a l k ls ok pl =
    let x = s.actors a in
    alone_put (put s.locks l (Locked k)) s.actors a
    (record {
      place = Lock ls;
      declared = x.declared;
      rv = x.rv;
      wv = x.wv;
      reads = x.reads;
      writes = x.writes;
      held = x.held
          ++ (l, k) ∷ [];
      calls = x.calls;
    }) (record {
      free = λ i. put_both (λ (z : LockWord). IsFree z ⊎ ((j : ℕ) × (lookup (x.held ++ (l, k) ∷ []) i ≡ Some j))) s.locks l (Locked k) i
          (λ q. inr (k, ap (lookup (x.held ++ (l, k) ∷ [])) q ∙ lookup-push_same x.held l k (pl.2 l (inl refl))))
          (λ ne. elim (ok.free i) [ inl f ↦ inl f | inr h ↦ inr (h.0, lookup-push_other x.held l k i ne ∙ h.1) ]);
      place = (
        (λ i. put_both (λ (z : LockWord). version_of z ≤ x.rv) s.locks l (Locked k) i
            (λ q. let e = ap version_of pl.3 in omega (arith, e, pl.0 l)) (λ _. pl.0 i)),
        (pl.1).1,
        λ i m. lookup-push_other x.held l k i (λ q. (pl.1).0 (subst (λ (n : ℕ). Member n ls) q m)) ∙ pl.2 i (inr m),
      );
    })

take_alone : (s : World) (a l k : ℕ) (ls : List ℕ) (w : LockWord) → AloneAt s a → AlonePlace s.locks (s.actors a) (Take l k ls)
    → s.locks l ≡ w → Good s (tried s a (s.actors a) l k ls w) a (take_notice l k w)
take_alone s a l k ls (Free j) ok pl is =
    let z : Free j ≡ Free k = sym is ∙ pl.3 in
    let same : j ≡ k = cc in (
      cond_both (eqb j k) (locked s a (s.actors a) l k ls) (now s a (goes (s.actors a) Broken)) (λ (t : World). AloneAt t a)
          (λ _. locked_alone s a l k ls ok pl) (λ t. absurd (eqb-false j k t same)),
      cond_both (eqb j k) Quiet (Busy l (bits (Free j))) (λ (y : Notice). IsConflict y → ⊥) (λ _ h. h) (λ t _. eqb-false j k t same),
    )
take_alone s a l k ls (Locked j) ok pl is = let z : Locked j ≡ Free k = sym is ∙ pl.3 in absurd (let b : ⊥ = cc in b)

passes : (s : World) (a l k : ℕ) (ls : List ℕ) → AloneAt s a → Low s.locks (s.actors a) → k ≤ (s.actors a).rv
    → Good s (now s a (cond (leb k (s.actors a).rv) (goes (s.actors a) (Check ls)) (goes (s.actors a) Broken))) a
    (cond (leb k (s.actors a).rv) (when_none_left ls (LockedAt (s.actors a).wv)) (Invalid l k))
passes s a l k ls ok pl low =
    let x = s.actors a in (
      cond_both (leb k x.rv) (goes x (Check ls)) (goes x Broken) (λ (z : Actor). AloneAt (now s a z) a)
          (λ _. alone_put s.locks s.actors a (goes x (Check ls)) (goes_alone s.locks x (Check ls) ok pl))
          (λ t. absurd (let q = leb-false k x.rv t in omega (arith, q, low))),
      cond_both (leb k x.rv) (when_none_left ls (LockedAt x.wv)) (Invalid l k) (λ (z : Notice). IsConflict z → ⊥)
          (λ _. quiet_list ls (LockedAt x.wv) (λ h. h)) (λ t _. let q = leb-false k x.rv t in omega (arith, q, low)),
    )

check_alone : (s : World) (a l : ℕ) (ls : List ℕ) (w : LockWord) (own : Option ℕ) → AloneAt s a → Low s.locks (s.actors a) → s.locks l
    ≡ w → lookup (s.actors a).writes l ≡ own → (own ≡ None → lookup (s.actors a).held l ≡ None)
    → Good s (checked s a (s.actors a) l ls w own) a (check_notice (s.actors a).rv (s.actors a).wv l ls w own)
check_alone s a l ls (Free k) own ok pl is mine unheld =
    let x = s.actors a in
    let low : k ≤ x.rv = (let q = ap version_of is in omega (arith, q, pl l)) in (
      (passes s a l k ls ok pl low).0,
      cond_both (leb k x.rv) (when_none_left ls (LockedAt x.wv)) (Invalid l (bits (Free k))) (λ (z : Notice). IsConflict z → ⊥)
          (λ _. quiet_list ls (LockedAt x.wv) (λ h. h)) (λ t _. let q = leb-false k x.rv t in omega (arith, q, low)),
    )
check_alone s a l ls (Locked k) (Some old) ok pl is mine unheld =
    let x = s.actors a in
    let low : k ≤ x.rv = (let q = ap version_of is in omega (arith, q, pl l)) in (
      (passes s a l k ls ok pl low).0,
      cond_both (leb k x.rv) (when_none_left ls (LockedAt x.wv)) (Invalid l (bits (Locked k))) (λ (z : Notice). IsConflict z → ⊥)
          (λ _. quiet_list ls (LockedAt x.wv) (λ h. h)) (λ t _. let q = leb-false k x.rv t in omega (arith, q, low)),
    )
check_alone s a l ls (Locked k) None ok pl is mine unheld = absurd
    (subst IsFree is (free_word (s.locks l) (s.actors a).held l (ok.free l) (unheld refl)))

-- a lock given back
back_alone : (s : World) (a : ℕ) (f : ℕ × ℕ) (fs : Entries) (v : ℕ) (p : Place) → AloneAt s a → (s.actors a).held ≡ f ∷ fs
    → AlonePlace (put s.locks f.0 (Free v)) (record {
      place = p;
      declared = (s.actors a).declared;
      rv = (s.actors a).rv;
      wv =
          (s.actors a).wv;
      reads = (s.actors a).reads;
      writes = (s.actors a).writes;
      held = fs;
      calls = (s.actors a).calls;
    }) p
    → AloneOk (put s.locks f.0 (Free v)) (put s.actors a
    (record {
      place = p;
      declared = (s.actors a).declared;
      rv = (s.actors a).rv;
      wv = (s.actors a).wv;
      reads =
          (s.actors a).reads;
      writes = (s.actors a).writes;
      held = fs;
      calls = (s.actors a).calls;
    }) a)
back_alone s a f fs v p ok has pl =
    let x = s.actors a in
    let y : Actor =
    record { place = p; declared = x.declared; rv = x.rv; wv = x.wv; reads = x.reads; writes = x.writes; held = fs; calls = x.calls } in
    alone_put (put s.locks f.0 (Free v)) s.actors a y (record {
      free = λ i. put_both (λ (z : LockWord). IsFree z ⊎ ((j : ℕ) × (lookup fs i ≡ Some j))) s.locks f.0 (Free v) i
          (λ _. inl tt)
          (λ ne. elim (ok.free i) [
            | inl q ↦ inl q
            | inr h ↦ inr
                (h.0, sym (ap (λ (z : Entries). lookup z i) has ∙ lookup-tail f fs i ne) ∙ h.1)
          ]);
      place = pl;
    })

released_alone : (s : World) (a : ℕ) (h : Entries) → AloneAt s a → (s.actors a).held ≡ h
    → Good s (released s a (s.actors a) h) a (last_notice h Released)
released_alone s a [] ok has = (ok, λ h. h)
released_alone s a (f ∷ []) ok has = (back_alone s a f [] (s.actors a).wv Idle ok has tt, λ h. h)
released_alone s a (f ∷ (g ∷ fs)) ok has = (back_alone s a f (g ∷ fs) (s.actors a).wv Release ok has tt, λ h. h)

undone_alone : (s : World) (a : ℕ) (h : Entries) → AloneAt s a → (s.actors a).held ≡ h
    → Good s (undone s a (s.actors a) h) a (last_notice h Cancelled)
undone_alone s a [] ok has = (ok, λ h. h)
undone_alone s a (f ∷ fs) ok has = (back_alone s a f fs f.1 Undo ok has tt, quiet_list fs Cancelled (λ h. h))

first_alone : (s : World) (a : ℕ) (w : Entries) → AloneAt s a → AloneAt (first s a (s.actors a) w) a
first_alone s a [] ok = ok
first_alone s a (e ∷ es) ok = alone_put s.locks s.actors a (goes (s.actors a) (Store (locations es)))
    (goes_alone s.locks (s.actors a) (Store (locations es)) ok tt)

pub step_alone : (s : World) (a : ℕ) (p : Place) → Inv s → AloneAt s a → AlonePlace s.locks (s.actors a) p → PlaceOk s (s.actors a) p
    → Good s (step s a (s.actors a) p) a (notice s (s.actors a) p)
step_alone s a Idle v ok pl pk = (ok, λ h. h)
step_alone s a Begin v ok pl pk = (
  cond_both (ltb s.clock clock_limit) (opened (s.actors a).declared s.clock) (goes (s.actors a) Idle) (λ (z : Actor). AloneAt (now s a z) a)
      (λ _. alone_put s.locks s.actors a (opened (s.actors a).declared s.clock) (record {
        free = λ l. elim (ok.free l) [ inl q ↦ inl q | inr q ↦ absurd (lookup-none (s.actors a).held l q.0 pk q.1) ];
        place = (v.versions, tt);
      }))
      (λ _. alone_put s.locks s.actors a (goes (s.actors a) Idle) (goes_alone s.locks (s.actors a) Idle ok tt)),
  cond_both (ltb s.clock clock_limit) (Begun s.clock) (Exhausted s.clock) (λ (z : Notice). IsConflict z → ⊥) (λ _ h. h) (λ _ h. h),
)
step_alone s a Open v ok pl pk = (ok, λ h. h)
step_alone s a (Look l) v ok pl pk = look_alone s a l (s.locks l) ok pk.0 pl refl
step_alone s a (Fetch l k) v ok pl pk = (
  alone_put s.locks s.actors a (goes (s.actors a) (Again l k (s.values l)))
      (goes_alone s.locks (s.actors a) (Again l k (s.values l)) ok pl),
  λ h. h,
)
step_alone s a (Again l k u) v ok pl pk = again_alone s a l k u (s.locks l) ok pl refl
step_alone s a (Lock []) v ok pl pk =
    let x = s.actors a in (
      alone_put s.locks s.actors a (record {
        place = Check
            (to_check x (s.clock + 1));
        declared = x.declared;
        rv = x.rv;
        wv = s.clock + 1;
        reads = x.reads;
        writes = x.writes;
        held = x.held;
        calls = x.calls;
      }) (record { free = ok.free; place = pl.0 }),
      quiet_list (to_check x (s.clock + 1)) (LockedAt (s.clock + 1)) (λ h. h),
    )
step_alone s a (Lock (l ∷ ls)) v ok pl pk = to_lock_alone s a l ls (s.locks l) ok pl refl
step_alone s a (Take l k ls) v ok pl pk = take_alone s a l k ls (s.locks l) ok pl refl
step_alone s a (Check []) v ok pl pk = (ok, λ h. h)
step_alone s a (Check (l ∷ ls)) v ok pl pk = check_alone s a l ls (s.locks l) (lookup (s.actors a).writes l) ok pl refl refl
    (λ none. none_if (lookup (s.actors a).held l)
    (λ j h. let w = (pk.0).written l j h in let z : Some w.0 ≡ None = sym w.1 ∙ none in absurd (let b : ⊥ = cc in b)))
step_alone s a Broken v ok pl pk = (ok, λ h. h)
step_alone s a First v ok pl pk = (first_alone s a (s.actors a).writes ok, last_quiet (s.actors a).writes Stored (λ h. h))
step_alone s a (Store []) v ok pl pk = (ok, λ h. h)
step_alone s a (Store (l ∷ ls)) v ok pl pk = (
  alone_put s.locks s.actors a (goes (s.actors a) (Store ls))
      (goes_alone s.locks (s.actors a) (Store ls) ok tt),
  quiet_list ls Stored (λ h. h),
)
step_alone s a Release v ok pl pk = released_alone s a (s.actors a).held ok refl
step_alone s a Undo v ok pl pk = undone_alone s a (s.actors a).held ok refl
step_alone s a Leave v ok pl pk = (
  alone_put s.locks s.actors a (goes (s.actors a) Idle)
      (goes_alone s.locks (s.actors a) Idle ok tt),
  λ h. h,
)
step_alone s a Close v ok pl pk = (
  alone_put s.locks s.actors a (goes (s.actors a) Idle)
      (goes_alone s.locks (s.actors a) Idle ok tt),
  λ h. h,
)

pub run_alone : (events : List Event) (s : World) (a : ℕ) → Inv s → AloneAt s a → IsAlone a events → AloneAt (run events s) a
run_alone [] s a v ok g = ok
run_alone (Ask b request ∷ es) s a v ok g =
    run_alone es (happens s (Ask b request)) a (happens_ok s (Ask b request) v).inv
    (put_both (AloneOk s.locks) s.actors b (ask (s.actors b) (s.actors b).place request) a
    (λ q. let mine : AloneOk s.locks (s.actors b) = subst (λ (n : ℕ). AloneOk s.locks (s.actors n)) q ok in
    ask_alone s (s.actors b) (s.actors b).place request mine mine.place (v.actors b).place)
    (λ _. ok)) g
run_alone (Step b ∷ es) s a v ok g =
    run_alone es (happens s (Step b)) a (happens_ok s (Step b) v).inv
    (subst (λ (n : ℕ). AloneAt (happens s (Step n)) a) (sym g.0) (step_alone s a (s.actors a).place v ok ok.place (v.actors a).place).0) g.1

-- no conflict stops a transaction that is alone
pub alone : (s : World) (a : ℕ) (later : List Event) → Inv s → Inv (run later s) → (s.actors a).place ≡ Begin
    → ((l : ℕ) → IsFree (s.locks l)) → IsAlone a later
    → IsConflict (notice (run later s) ((run later s).actors a) ((run later s).actors a).place) → ⊥
alone s a later v w e free g =
    let ok : AloneAt s a = record { free = λ l. inl (free l); place = subst (AlonePlace s.locks (s.actors a)) (sym e) tt } in
    let end = run_alone later s a v ok g in
    (step_alone (run later s) a ((run later s).actors a).place w end end.place (w.actors a).place).1
