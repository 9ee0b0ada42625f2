-- Requests, and the steps that change no word.
use Rattle.std.proofs.Common.{◌≡◌, ℕ, ◌-◌, ◌≤◌, Bool, true, false, eqb, ltb, leb, Option, Some, None, List, [], ◌∷◌, ◌++◌, inl, inr, refl}
use Rattle.std.proofs.Common.{sym, ap, ◌∙◌, subst, arith, leb-true, eqb-true}
use Rattle.std.specs.Prelude.{if◌then◌else◌}
use Rattle.std.proofs.lemmas.Bool.{cond_both}
use Rattle.vlock_word.specs.declared.lock_word.LockWord.{LockWord}
use Rattle.vlock_word.specs.declared.lock_word.LockWord.TheVariants.{Free, Locked}
use Rattle.vlock_word.specs.LockWord.{version_of}
use Rattle.tx_sets.specs.Entries.{Entries, lookup, with_entry, locations}
use Rattle.tx_machine.specs.Actor.{Call, Read, Write, Place, Idle, Begin, Open, Look, Fetch, Again, Lock, Take, Check, Broken, First}
use Rattle.tx_machine.specs.Actor.{Store, Release, Undo, Leave, Close, Actor, goes, opened, with_read, has_read, clock_limit}
use Rattle.tx_machine.specs.Requests.{Request, AskBegin, AskBeginRead, AskLock, AskStore, AskRelease, AskCancel, AskAbort, AskClose}
use Rattle.tx_machine.specs.Requests.{AskRead, AskWrite, begin, read, write, lock, close, abort, ask}
use Rattle.tx_machine.specs.World.{Ended, World, now}
use Rattle.tx_machine.proofs.Worlds.{looked, looked_again, to_lock, checked, left}
use Rattle.tx_machine.specs.Opacity.{IsHalfDone, AllEnded}
use Rattle.tx_machine.proofs.Sets.{member_locations, locations_member, with_entry_cases}
use Rattle.tx_machine.proofs.Calls.{Sets, Sets-none, Sets-read, Sets-write}
use Rattle.tx_machine.proofs.Records.{settled, stamp, settled_all}
use Rattle.tx_machine.proofs.Invariant.{IsPending, HasBegun, IsKept, Good, Saw, latest, Reading, IsSomeEntry, PlaceOk, ActorOk, Inv}
use Rattle.tx_machine.proofs.Saw.{Saw-none, Saw-own, Saw-again, Saw-new, Saw-read, Saw-write}
use Rattle.tx_machine.proofs.Frame.{Moved, QuietOk, quiet, quiet_ended, stamp_of}

pub none_if : (o : Option ℕ) → ((k : ℕ) → o ≡ Some k → ⊥) → o ≡ None
none_if None h = refl
none_if (Some k) h = absurd (h k refl)

pub lookup-none : (es : Entries) (l k : ℕ) → es ≡ [] → lookup es l ≡ Some k → ⊥
unfolding lookup
lookup-none es l k e h = let x : Some k ≡ None = sym h ∙ ap (λ (z : Entries). lookup z l) e in cc

free_not_locked : (w : LockWord) (j k : ℕ) → w ≡ Free j → w ≡ Locked k → ⊥
free_not_locked w j k p q = cc

-- no one holds a lock that is free
pub no_holder : (s : World) (l k : ℕ) → Inv s → s.locks l ≡ Free k → (b j : ℕ) → lookup (s.actors b).held l ≡ Some j → ⊥
no_holder s l k v free b j h = free_not_locked (s.locks l) k j free ((v.actors b).held l j h)

-- A word of version at most n, which no one else changes before it has a greater number, is good at n.
pub good_at : (s : World) (n l v : ℕ) → Inv s → n ≤ s.clock → version_of (s.locks l) ≤ n → stamp s.history l ≤ version_of (s.locks l)
    → latest s l ≡ v
    → ((b j : ℕ) → lookup (s.actors b).held l ≡ Some j → IsPending (s.actors b).place → (s.actors b).wv ≤ n → ⊥) → Good s n l v
good_at s n l v i past low behind is holder = record {
  past = past;
  value = settled_all s.history n l (s.opening l) (omega (arith, behind, low)) ∙ is;
  fixed = λ b p w. none_if (lookup (s.actors b).writes l) (λ u h.
      let q = (stamp_of s b i p).all_held l u h in holder b q.0 q.1 p w);
}

pub free_behind : (s : World) (l k : ℕ) → Inv s → s.locks l ≡ Free k → stamp s.history l ≤ version_of (s.locks l)
free_behind s l k v free = v.behind l (λ b half. none_if (lookup (s.actors b).held l) (λ j h. no_holder s l k v free b j h))

pub free_good : (s : World) (n l k u : ℕ) → Inv s → s.locks l ≡ Free k → k ≤ n → n ≤ s.clock → latest s l ≡ u → Good s n l u
free_good s n l k u v free low past is =
    let e : version_of (s.locks l) ≡ k = ap version_of free in
    good_at s n l u v past (omega (arith, e, low)) (free_behind s l k v free) is (λ b j h p w. no_holder s l k v free b j h)

-- the actor at another place, with the same transaction
pub goes_ok : (s : World) (x : Actor) (q : Place) → ActorOk s x → (HasBegun q → HasBegun x.place) → PlaceOk s (goes x q) q
    → ActorOk s (goes x q)
goes_ok s x q ok begun pl = record {
  began = ok.began;
  reads = ok.reads;
  saw = ok.saw;
  sets = ok.sets;
  kept = λ h. ok.kept
      (begun h);
  held = ok.held;
  unique = ok.unique;
  place = pl;
}

pub quiet_goes : (s : World) (a : ℕ) (p q : Place) → Inv s → (s.actors a).place ≡ p → (IsPending q → IsPending p)
    → (IsHalfDone p → IsHalfDone q) → (HasBegun q → HasBegun p) → PlaceOk s (goes (s.actors a) q) q → QuietOk s a (goes (s.actors a) q)
quiet_goes s a p q v e f g b pl = record {
  numbered = λ h. inl (subst IsPending (sym e) (f h), refl, refl);
  still = λ l half none. none (g (subst IsHalfDone e half));
  held = refl;
  ok = goes_ok s (s.actors a) q (v.actors a) (λ h. subst HasBegun (sym e) (b h)) pl;
}

quiet_same : (s : World) (a : ℕ) → Inv s → QuietOk s a (s.actors a)
quiet_same s a v = record {
  numbered = λ h. inl (h, refl, refl);
  still = λ l half none. none half;
  held = refl;
  ok = v.actors a;
}

-- the actor in the open with these sets and calls
quiet_open : (s : World) (a : ℕ) (p : Place) (r w : Entries) (cs : List Call) → Inv s → (s.actors a).place ≡ p → (IsHalfDone p → ⊥)
    → (s.actors a).held ≡ [] → Sets w cs
    → ((l v : ℕ) → lookup r l ≡ Some v → Good s (s.actors a).rv l v)
    → (g : Saw s (s.actors a).rv cs) → IsKept (s.actors a).declared r w g.reads
    → QuietOk s a (record {
      place = Open;
      declared = (s.actors a).declared;
      rv = (s.actors a).rv;
      wv =
          (s.actors a).wv;
      reads = r;
      writes = w;
      held = (s.actors a).held;
      calls = cs;
    })
quiet_open s a p r w cs v e g none sets good saw kept = record {
  numbered = λ h. absurd h;
  still = λ l half n. absurd (g (subst IsHalfDone e half));
  held = refl;
  ok = record {
    began = (v.actors a).began;
    reads = good;
    saw = saw;
    sets = sets;
    kept = λ _. kept;
    held = (v.actors a).held;
    unique =
        (v.actors a).unique;
    place = none;
  };
}

-- what the read set has, the transaction has seen
in_seen : (declared : Bool) (reads writes seen : Entries) (l v : ℕ) → IsKept declared reads writes seen → lookup reads l ≡ Some v
    → lookup seen l ≡ Some v
in_seen true reads writes seen l v kept h = absurd (lookup-none reads l v kept.0 h)
in_seen false reads writes seen l v kept h = ap (λ (z : Entries). lookup z l) kept ∙ h

read_ok : (s : World) (a l : ℕ) (w r : Option ℕ) → Inv s → (s.actors a).place ≡ Open → (s.actors a).held ≡ []
    → lookup (s.actors a).writes l ≡ w → lookup (s.actors a).reads l ≡ r → QuietOk s a (read (s.actors a) l w r)
read_ok s a l (Some u) r v e none hw hr =
    let x = s.actors a in
    let ok = v.actors a in
    quiet_open s a Open x.reads x.writes (x.calls ++ Read l u ∷ []) v e (λ h. h) none (Sets-read x.writes x.calls l u ok.sets) ok.reads
    (Saw-own s x.rv x.writes x.calls l u ok.sets hw ok.saw) (ok.kept (subst HasBegun (sym e) tt))
read_ok s a l None (Some u) v e none hw hr =
    let x = s.actors a in
    let ok = v.actors a in
    let kept = ok.kept (subst HasBegun (sym e) tt) in
    quiet_open s a Open x.reads x.writes (x.calls ++ Read l u ∷ []) v e (λ h. h) none (Sets-read x.writes x.calls l u ok.sets) ok.reads
    (Saw-again s x.rv x.writes x.calls l u ok.saw ok.sets hw (in_seen x.declared x.reads x.writes ok.saw.reads l u kept hr)) kept
read_ok s a l None None v e none hw hr = quiet_goes s a Open (Look l) v e (λ h. h) (λ h. h) (λ h. tt) (none, hw, hr)

write_ok : (s : World) (a l u : ℕ) (declared : Bool) → Inv s → (s.actors a).place ≡ Open → (s.actors a).held ≡ [] → (s.actors a).declared
    ≡ declared → QuietOk s a (write (s.actors a) declared l u)
write_ok s a l u true v e none d = quiet_same s a v
write_ok s a l u false v e none d =
    let x = s.actors a in
    let ok = v.actors a in
    let kept : ok.saw.reads ≡ x.reads = subst (λ (b : Bool). IsKept b x.reads x.writes ok.saw.reads) d
    (ok.kept (subst HasBegun (sym e) tt)) in
    quiet_open s a Open x.reads (with_entry x.writes l u) (x.calls ++ Write l u ∷ []) v e (λ h. h) none
    (Sets-write x.writes x.calls l u ok.sets) ok.reads
    (Saw-write s x.rv x.calls l u ok.saw) (subst (λ (b : Bool). IsKept b x.reads (with_entry x.writes l u) ok.saw.reads) (sym d) kept)

lock_ok : (s : World) (a : ℕ) (w : Entries) → Inv s → (s.actors a).place ≡ Open → (s.actors a).held ≡ [] → (s.actors a).writes ≡ w
    → QuietOk s a (lock (s.actors a) w)
lock_ok s a [] v e none hw = quiet_same s a v
lock_ok s a (f ∷ fs) v e none hw =
    quiet_goes s a Open (Lock (locations (f ∷ fs))) v e (λ h. h) (λ h. h) (λ b. tt) (record {
      covered = λ l u h. inl (member_locations (f ∷ fs) l u (ap (λ (z : Entries). lookup z l) (sym hw) ∙ h));
      written = λ l k h. absurd (lookup-none (s.actors a).held l k none h);
      within = λ l h. let t = locations_member (f ∷ fs) l h in (t.0, ap (λ (z : Entries). lookup z l) hw ∙ t.1);
      some = subst IsSomeEntry (sym hw) tt;
    })

close_ok : (s : World) (a : ℕ) (w : Entries) → Inv s → (s.actors a).place ≡ Open → (s.actors a).held ≡ [] → (s.actors a).writes ≡ w
    → QuietOk s a (close (s.actors a) w)
close_ok s a [] v e none hw = quiet_goes s a Open Close v e (λ h. h) (λ h. h) (λ b. tt) (none, hw)
close_ok s a (f ∷ fs) v e none hw = quiet_same s a v

abort_ok : (s : World) (a : ℕ) (h : Entries) → Inv s → (s.actors a).place ≡ Undo → (s.actors a).held ≡ h
    → QuietOk s a (abort (s.actors a) h)
abort_ok s a [] v e hh = quiet_goes s a Undo Leave v e (λ h. h) (λ h. h) (λ b. tt) hh
abort_ok s a (f ∷ fs) v e hh = quiet_same s a v

-- a begin changes no set, and what they say is asked of a transaction that has begun
asked_begin_ok : (s : World) (a : ℕ) (declared : Bool) → Inv s → (s.actors a).place ≡ Idle → (s.actors a).held ≡ []
    → QuietOk s a (begin (s.actors a) declared)
asked_begin_ok s a declared v e none =
    let ok = v.actors a in
    record {
      numbered = λ h. absurd h;
      still = λ l half n. absurd (let z : IsHalfDone Idle = subst IsHalfDone e half in z);
      held = refl;
      ok = record {
        began = ok.began;
        reads = ok.reads;
        saw = ok.saw;
        sets = ok.sets;
        kept = λ h. absurd h;
        held = ok.held;
        unique = ok.unique;
        place = none;
      };
    }

pub ask_ok : (s : World) (a : ℕ) (p : Place) (request : Request) → Inv s → (s.actors a).place ≡ p → PlaceOk s (s.actors a) p
    → QuietOk s a (ask (s.actors a) p request)
ask_ok s a Idle AskBegin v e pl = asked_begin_ok s a false v e pl
ask_ok s a Idle AskBeginRead v e pl = asked_begin_ok s a true v e pl
ask_ok s a Open (AskRead l) v e pl = read_ok s a l (lookup (s.actors a).writes l) (lookup (s.actors a).reads l) v e pl refl refl
ask_ok s a Open (AskWrite l u) v e pl = write_ok s a l u (s.actors a).declared v e pl refl
ask_ok s a Open AskLock v e pl = lock_ok s a (s.actors a).writes v e pl refl
ask_ok s a Open AskClose v e pl = close_ok s a (s.actors a).writes v e pl refl
ask_ok s a Open AskAbort v e pl = quiet_goes s a Open Leave v e (λ h. h) (λ h. h) (λ b. tt) pl
ask_ok s a (Look l) AskAbort v e pl = quiet_goes s a (Look l) Leave v e (λ h. h) (λ h. h) (λ b. tt) pl.0
ask_ok s a (Fetch l k) AskAbort v e pl = quiet_goes s a (Fetch l k) Leave v e (λ h. h) (λ h. h) (λ b. tt) (pl.0).0
ask_ok s a (Again l k u) AskAbort v e pl = quiet_goes s a (Again l k u) Leave v e (λ h. h) (λ h. h) (λ b. tt) (pl.0).0
ask_ok s a Close AskAbort v e pl = quiet_goes s a Close Leave v e (λ h. h) (λ h. h) (λ b. tt) pl.0
ask_ok s a Begin AskAbort v e pl = quiet_goes s a Begin Idle v e (λ h. h) (λ h. h) (λ b. b) pl
ask_ok s a (Lock ls) AskCancel v e pl = quiet_goes s a (Lock ls) Undo v e (λ h. h) (λ h. h) (λ b. tt) tt
ask_ok s a (Take l k ls) AskCancel v e pl = quiet_goes s a (Take l k ls) Undo v e (λ h. h) (λ h. h) (λ b. tt) tt
ask_ok s a (Check ls) AskCancel v e pl = quiet_goes s a (Check ls) Undo v e (λ h. tt) (λ h. h) (λ b. tt) tt
ask_ok s a Broken AskCancel v e pl = quiet_goes s a Broken Undo v e (λ h. h) (λ h. h) (λ b. tt) tt
ask_ok s a (Check []) AskStore v e pl = quiet_goes s a (Check []) First v e (λ h. tt) (λ h. h) (λ b. tt) pl
ask_ok s a (Store []) AskRelease v e pl = quiet_goes s a (Store []) Release v e (λ h. h) (λ h. tt) (λ b. tt) pl.0
ask_ok s a Undo AskAbort v e pl = abort_ok s a (s.actors a).held v e refl
ask_ok s a p request v e pl = quiet_same s a v

-- a new transaction has seen nothing
nothing_kept : (declared : Bool) → IsKept declared [] [] []
nothing_kept true = (refl, refl)
nothing_kept false = refl

pub begin_ok : (s : World) (a : ℕ) → Inv s → (s.actors a).place ≡ Begin → (s.actors a).held ≡ []
    → Moved s a (now s a (if◌then◌else◌ (ltb s.clock clock_limit) (opened (s.actors a).declared s.clock) (goes (s.actors a) Idle)))
begin_ok s a v e none =
    cond_both (ltb s.clock clock_limit) (opened (s.actors a).declared s.clock) (goes (s.actors a) Idle)
    (λ (z : Actor). Moved s a (now s a z))
    (λ _. quiet s a (opened (s.actors a).declared s.clock) v (record {
      numbered = λ h. absurd h;
      still = λ l half n. absurd (let z : IsHalfDone Begin = subst IsHalfDone e half in z);
      held = sym none;
      ok = record {
        began = omega arith;
        reads = λ l u h. absurd (lookup-none [] l u refl h);
        saw = Saw-none s s.clock;
        sets = Sets-none;
        kept = λ _. nothing_kept (s.actors a).declared;
        held = λ l k h. absurd (lookup-none [] l k refl h);
        unique = tt;
        place = refl;
      };
    }))
    (λ _. quiet s a (goes (s.actors a) Idle) v (quiet_goes s a Begin Idle v e (λ h. h) (λ h. h) (λ b. b) none))

pub looked_ok : (s : World) (a l : ℕ) (w : LockWord) → Inv s → (s.actors a).place ≡ Look l → Reading (s.actors a) l → s.locks l ≡ w
    → Moved s a (looked s a (s.actors a) l w)
looked_ok s a l (Free k) v e pl is =
    cond_both (leb k (s.actors a).rv) (goes (s.actors a) (Fetch l k)) (goes (s.actors a) Undo) (λ (z : Actor). Moved s a (now s a z))
    (λ t. quiet s a (goes (s.actors a) (Fetch l k)) v (quiet_goes s a (Look l) (Fetch l k) v e (λ h. h) (λ h. h) (λ b. tt)
    (pl, leb-true k (s.actors a).rv t, (let q = ap version_of is in omega (arith, q)))))
    (λ _. quiet s a (goes (s.actors a) Undo) v (quiet_goes s a (Look l) Undo v e (λ h. h) (λ h. h) (λ b. tt) tt))
looked_ok s a l (Locked k) v e pl is = quiet s a (goes (s.actors a) Undo) v
    (quiet_goes s a (Look l) Undo v e (λ h. h) (λ h. h) (λ b. tt) tt)

pub fetch_ok : (s : World) (a l k : ℕ) → Inv s → (s.actors a).place ≡ Fetch l k → PlaceOk s (s.actors a) (Fetch l k)
    → Moved s a (now s a (goes (s.actors a) (Again l k (s.values l))))
fetch_ok s a l k v e pl =
    quiet s a (goes (s.actors a) (Again l k (s.values l))) v
    (quiet_goes s a (Fetch l k) (Again l k (s.values l)) v e (λ h. h) (λ h. h) (λ b. tt)
    (pl.0, pl.1, pl.2, λ h. sym (v.current l (omega (arith, h, pl.2)))))

-- one read more: a declared reader's is known to the proof alone, and may be of a location that it has read before
read_more : (s : World) (a l k u : ℕ) (declared : Bool) → Inv s → (s.actors a).place ≡ Again l k u → (s.actors a).held ≡ []
    → lookup (s.actors a).writes l ≡ None → lookup (s.actors a).reads l ≡ None → (s.actors a).declared ≡ declared
    → Good s (s.actors a).rv l u
    → QuietOk s a (record {
      place = Open;
      declared = (s.actors a).declared;
      rv = (s.actors a).rv;
      wv =
          (s.actors a).wv;
      reads = with_read declared (s.actors a).reads l u;
      writes = (s.actors a).writes;
      held =
          (s.actors a).held;
      calls = (s.actors a).calls ++ Read l u ∷ [];
    })
read_more s a l k u true v e none hw hr d good =
    let x = s.actors a in
    let ok = v.actors a in
    let saw = Saw-read s x.rv x.writes x.calls l u ok.saw ok.sets hw good in
    let kept : (x.reads ≡ []) × (x.writes ≡ []) = subst (λ (b : Bool). IsKept b x.reads x.writes ok.saw.reads) d
    (ok.kept (subst HasBegun (sym e) tt)) in
    quiet_open s a (Again l k u) x.reads x.writes (x.calls ++ Read l u ∷ []) v e (λ h. h) none
    (Sets-read x.writes x.calls l u ok.sets) ok.reads
    saw (subst (λ (b : Bool). IsKept b x.reads x.writes saw.reads) (sym d) kept)
read_more s a l k u false v e none hw hr d good =
    let x = s.actors a in
    let ok = v.actors a in
    let kept : ok.saw.reads ≡ x.reads = subst (λ (b : Bool). IsKept b x.reads x.writes ok.saw.reads) d
    (ok.kept (subst HasBegun (sym e) tt)) in
    let saw = Saw-new s x.rv x.writes x.calls l u ok.saw ok.sets hw (ap (λ (z : Entries). lookup z l) kept ∙ hr) good in
    quiet_open s a (Again l k u) (with_entry x.reads l u) x.writes (x.calls ++ Read l u ∷ []) v e (λ h. h) none
    (Sets-read x.writes x.calls l u ok.sets)
    (λ i z h. elim (with_entry_cases x.reads l u i z h) [
      | inl q ↦ subst (λ (n : ℕ). Good s x.rv n z) (sym q.0) (subst (λ (n : ℕ). Good s x.rv l n) (sym q.1) good)
      | inr q ↦ ok.reads i z q.1
    ])
    saw (subst (λ (b : Bool). IsKept b (with_entry x.reads l u) x.writes (with_entry ok.saw.reads l u)) (sym d)
    (ap (λ (z : Entries). with_entry z l u) kept))

pub looked_again_ok : (s : World) (a l k u : ℕ) (w : LockWord) → Inv s → (s.actors a).place ≡ Again l k u
    → PlaceOk s (s.actors a) (Again l k u) → s.locks l ≡ w → Moved s a (looked_again s a (s.actors a) l k u w)
looked_again_ok s a l k u (Free j) v e pl is =
    cond_both (eqb j k) (has_read (s.actors a) l u) (goes (s.actors a) Undo) (λ (z : Actor). Moved s a (now s a z))
    (λ t.
    let x = s.actors a in
    let same = eqb-true j k t in
    let b = free_behind s l j v is in
    let ver : version_of (s.locks l) ≡ j = ap version_of is in
    let value : latest s l ≡ u = pl.3 (omega (arith, b, ver, same)) in
    let good : Good s x.rv l u = free_good s x.rv l j u v is (omega (arith, same, pl.1)) (v.actors a).began value in
    quiet s a (has_read x l u) v (read_more s a l k u x.declared v e (pl.0).0 (pl.0).1 (pl.0).2 refl good))
    (λ _. quiet s a (goes (s.actors a) Undo) v (quiet_goes s a (Again l k u) Undo v e (λ h. h) (λ h. h) (λ b. tt) tt))
looked_again_ok s a l k u (Locked j) v e pl is = quiet s a (goes (s.actors a) Undo) v
    (quiet_goes s a (Again l k u) Undo v e (λ h. h) (λ h. h) (λ b. tt) tt)

pub to_lock_ok : (s : World) (a l : ℕ) (ls : List ℕ) (w : LockWord) → Inv s → (s.actors a).place ≡ Lock (l ∷ ls)
    → PlaceOk s (s.actors a) (Lock (l ∷ ls)) → Moved s a (to_lock s a (s.actors a) l ls w)
to_lock_ok s a l ls (Free k) v e pl = quiet s a (goes (s.actors a) (Take l k ls)) v
    (quiet_goes s a (Lock (l ∷ ls)) (Take l k ls) v e (λ h. h) (λ h. h) (λ b. tt) pl)
to_lock_ok s a l ls (Locked k) v e pl = quiet s a (goes (s.actors a) Broken) v
    (quiet_goes s a (Lock (l ∷ ls)) Broken v e (λ h. h) (λ h. h) (λ b. tt) tt)

pub broken_ok : (s : World) (a : ℕ) (p : Place) → Inv s → (s.actors a).place ≡ p → (IsHalfDone p → ⊥) → HasBegun p
    → Moved s a (now s a (goes (s.actors a) Broken))
broken_ok s a p v e h begun = quiet s a (goes (s.actors a) Broken) v
    (quiet_goes s a p Broken v e (λ q. absurd q) (λ q. absurd (h q)) (λ b. begun) tt)

-- one read less to check
check_more : (s : World) (a l : ℕ) (ls : List ℕ) → Inv s → (s.actors a).place ≡ Check (l ∷ ls) → PlaceOk s (s.actors a) (Check (l ∷ ls))
    → version_of (s.locks l) ≤ (s.actors a).rv → stamp s.history l ≤ version_of (s.locks l)
    → ((b j : ℕ) → lookup (s.actors b).held l ≡ Some j → IsPending (s.actors b).place → (s.actors b).wv ≤ (s.actors a).wv - 1 → ⊥)
    → Moved s a (now s a (goes (s.actors a) (Check ls)))
check_more s a l ls v e pl low behind holder =
    let x = s.actors a in
    let st = pl.0 in
    quiet s a (goes x (Check ls)) v (quiet_goes s a (Check (l ∷ ls)) (Check ls) v e (λ h. tt) (λ h. h) (λ b. tt) (
      pl.0,
      λ i u h.
          elim (pl.1 i u h) [
            | inr g ↦ inr g
            | inl (inr m) ↦ inl m
            | inl (inl q) ↦ inr (
                let g = (v.actors a).reads i u h in
                let past : x.wv - 1 ≤ s.clock = omega (arith, st.made) in
                let value : latest s l ≡ u = sym (settled_all s.history x.rv l (s.opening l) (omega (arith, behind, low)))
                ∙ ap (λ (n : ℕ). settled s.history x.rv n (s.opening n)) (sym q) ∙ g.value in
                subst (λ (n : ℕ). Good s (x.wv - 1) n u) (sym q)
                (good_at s (x.wv - 1) l u v past (omega (arith, low, st.after_rv)) behind value holder))
          ],
    ))

pub checked_ok : (s : World) (a l : ℕ) (ls : List ℕ) (w : LockWord) (own : Option ℕ) → Inv s → (s.actors a).place ≡ Check (l ∷ ls)
    → PlaceOk s (s.actors a) (Check (l ∷ ls)) → s.locks l ≡ w → lookup (s.actors a).writes l ≡ own
    → Moved s a (checked s a (s.actors a) l ls w own)
checked_ok s a l ls (Free k) own v e pl is mine =
    cond_both (leb k (s.actors a).rv) (goes (s.actors a) (Check ls)) (goes (s.actors a) Broken) (λ (z : Actor). Moved s a (now s a z))
    (λ t. let ver : version_of (s.locks l) ≡ k = ap version_of is in
    check_more s a l ls v e pl (omega (arith, ver, leb-true k (s.actors a).rv t)) (free_behind s l k v is)
    (λ b j h p q. no_holder s l k v is b j h))
    (λ _. broken_ok s a (Check (l ∷ ls)) v e (λ h. h) tt)
checked_ok s a l ls (Locked k) (Some old) v e pl is mine =
    let hold = (pl.0).all_held l old mine in
    cond_both (leb k (s.actors a).rv) (goes (s.actors a) (Check ls)) (goes (s.actors a) Broken) (λ (z : Actor). Moved s a (now s a z))
    (λ t. let ver : version_of (s.locks l) ≡ k = ap version_of is in
    check_more s a l ls v e pl (omega (arith, ver, leb-true k (s.actors a).rv t))
    (v.behind l (λ b half. none_if (lookup (s.actors b).held l) (λ j h.
    let same = v.apart b a l j hold.0 h hold.1 in
    let z : IsHalfDone (Check (l ∷ ls)) = subst IsHalfDone e (subst (λ (n : ℕ). IsHalfDone (s.actors n).place) same half) in z)))
    (λ b j h p q. let same = v.apart b a l j hold.0 h hold.1 in
    let w : (s.actors b).wv ≡ (s.actors a).wv = ap (λ (n : ℕ). (s.actors n).wv) same in
    omega (arith, w, q, (pl.0).after_rv)))
    (λ _. broken_ok s a (Check (l ∷ ls)) v e (λ h. h) tt)
checked_ok s a l ls (Locked k) None v e pl is mine = broken_ok s a (Check (l ∷ ls)) v e (λ h. h) tt

AllEnded-push : (P : Ended → Type 0) (es : List Ended) (x : Ended) → AllEnded P es → P x → AllEnded P (es ++ x ∷ [])
AllEnded-push P [] x a p = (p, tt)
AllEnded-push P (e ∷ es) x a p = (a.0, AllEnded-push P es x a.1 p)

pub left_ok : (s : World) (a : ℕ) → Inv s → (s.actors a).place ≡ Leave → (s.actors a).held ≡ [] → Moved s a (left s a (s.actors a))
left_ok s a v e none =
    let x = s.actors a in
    quiet_ended s a (goes x Idle) (s.aborted ++ record { actor = a; rv = x.rv; calls = x.calls } ∷ []) v
    (quiet_goes s a Leave Idle v e (λ h. h) (λ h. h) (λ b. tt) none)
    (AllEnded-push (λ z. Saw s z.rv z.calls) s.aborted (record { actor = a; rv = x.rv; calls = x.calls }) v.aborted
    (v.actors a).saw)
