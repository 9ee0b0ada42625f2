-- The steps that change a word, the clock or the history.
use Rattle.std.specs.Prelude.{unwrap_or}
use Rattle.std.proofs.Common.{◌≡◌, ℕ, ◌+◌, ◌-◌, ◌<◌, ◌≤◌, max, Bool, true, false, eqb, eqb-true, Option, Some, None, List, [], ◌∷◌, ◌++◌}
use Rattle.std.proofs.Common.{◌⊎◌, inl, inr, refl, sym, ap, ◌∙◌, subst, arith, true≢false}
use Rattle.std.proofs.lemmas.Bool.{cases_eq, cond_both}
use Rattle.vlock_word.specs.declared.lock_word.LockWord.{LockWord}
use Rattle.vlock_word.specs.declared.lock_word.LockWord.TheVariants.{Free, Locked}
use Rattle.vlock_word.specs.LockWord.{version_of}
use Rattle.tx_sets.specs.Entries.{Entries, lookup, locations}
use Rattle.tx_machine.specs.Actor.{Call, Place, Idle, Lock, Take, Check, First, Store, Release, Undo, Close, Actor, goes, to_check}
use Rattle.tx_machine.specs.World.{Memory, put, Record, World, insert}
use Rattle.tx_machine.proofs.Worlds.{locked, stamped, commits, first, stored, gives_back, released, undone, closed}
use Rattle.tx_machine.specs.Opacity.{IsHalfDone}
use Rattle.tx_machine.proofs.Sets.{IsUnique, IsUnique-push, Member, member_locations, locations_member, push_cases, lookup-push_same}
use Rattle.tx_machine.proofs.Sets.{lookup-push_other, lookup-head, lookup-tail, rest_entry, put_both, put-same, put-other}
use Rattle.tx_machine.proofs.Calls.{touched}
use Rattle.tx_machine.proofs.Records.{stamp, AllRecords, AllRecords-insert, IsNew, IsInOrder-insert, stamp_untouched, stamp_touched}
use Rattle.tx_machine.proofs.Records.{settled_untouched, settled_later, finals_untouched, finals_touched}
use Rattle.tx_machine.proofs.Invariant.{IsPending, Good, HasBegun, IsKept, latest, Locking, IsSomeEntry, Done, PlaceOk, ActorOk, RecordOk}
use Rattle.tx_machine.proofs.Invariant.{Inv}
use Rattle.tx_machine.proofs.Frame.{Moved, moved_none, Keeps, Same, Keeps-no_commit, Saw-kept, ActorOk-kept, IsNumbered, next}
use Rattle.tx_machine.proofs.Frame.{actors_after, apart_after, numbers_after, unused_after, behind_before, records_kept, aborted_kept}
use Rattle.tx_machine.proofs.Quiet.{none_if, no_holder}

locked_is : (w : LockWord) (j k : ℕ) → w ≡ Locked j → w ≡ Locked k → j ≡ k
locked_is w j k p q = cc

free_not_locked : (w : LockWord) (j k : ℕ) → w ≡ Free j → w ≡ Locked k → ⊥
free_not_locked w j k p q = cc

-- a lock word put at l with the version that stands there
version-put : (locks : ℕ → LockWord) (l : ℕ) (w : LockWord) (i : ℕ) → version_of w ≡ version_of (locks l) → version_of (put locks l w i)
    ≡ version_of (locks i)
version-put locks l w i e = put_both (λ (z : LockWord). version_of z ≡ version_of (locks i)) locks l w i
    (λ q. e ∙ ap (λ (n : ℕ). version_of (locks n)) (sym q)) (λ _. refl)

-- a lock
pub locked_ok : (s : World) (a l k : ℕ) (ls : List ℕ) → Inv s → (s.actors a).place ≡ Take l k ls
    → Locking (s.actors a).writes (s.actors a).held (l ∷ ls) → s.locks l ≡ Free k → Moved s a (locked s a (s.actors a) l k ls)
locked_ok s a l k ls v e pl free =
    let x = s.actors a in
    let y : Actor =
    record {
      place = Lock ls;
      declared = x.declared;
      rv = x.rv;
      wv = x.wv;
      reads = x.reads;
      writes = x.writes;
      held = x.held ++ (l, k) ∷ [];
      calls = x.calls;
    } in
    let none : lookup x.held l ≡ None = none_if (lookup x.held l) (λ j h. no_holder s l k v free a j h) in
    let words : ℕ → LockWord = put s.locks l (Locked k) in
    let t : World = next s a y s.clock words s.values s.history s.aborted in
    let num : IsNumbered s a y = λ h. absurd h in
    let ver : (i : ℕ) → version_of (words i) ≡ version_of (s.locks i) = λ i. version-put s.locks l (Locked k) i
    (sym (ap version_of free)) in
    let keeps : Keeps s t = Keeps-no_commit s a y s.clock words s.values s.aborted (omega arith) num (λ i. omega (arith, ver i)) in
    let others : (b : ℕ) → Same s t (s.actors b).held = λ b. record {
      locks = λ i j h. put-other s.locks l (Locked k) i (λ q. no_holder s l k v free b j (ap (lookup (s.actors b).held) (sym q) ∙ h));
      values = λ i j h. refl;
      stamps = λ i j h. refl;
      latest = λ i j h. refl;
    } in
    let own : ActorOk t y = record {
      began = (v.actors a).began;
      reads = λ i u h. keeps.good x.rv i u ((v.actors a).reads i u h);
      saw = Saw-kept s t x.rv x.calls keeps (v.actors a).saw;
      sets = (v.actors a).sets;
      kept = λ _. (v.actors a).kept (subst HasBegun (sym e) tt);
      held = λ i j h. elim (push_cases x.held l k i j none h) [
        | inl q ↦ ap words q.0 ∙ put-same s.locks l (Locked k) ∙ ap Locked (sym q.1)
        | inr q ↦ put-other s.locks l (Locked k) i q.0 ∙ (v.actors a).held i j q.1
      ];
      unique = IsUnique-push x.held l k (v.actors a).unique none;
      place = record {
        covered = λ i u h. elim (pl.covered i u h) [
          | inl (inl q) ↦ inr (k, ap (lookup (x.held ++ (l, k) ∷ [])) q ∙ lookup-push_same x.held l k none)
          | inl (inr m) ↦ inl m
          | inr q ↦ inr (elim (cases_eq i l) [
            | inl z ↦ (k, ap (lookup (x.held ++ (l, k) ∷ [])) z ∙ lookup-push_same x.held l k none)
            | inr z ↦ (q.0, lookup-push_other x.held l k i z ∙ q.1)
          ])
        ];
        written = λ i j h. elim (push_cases x.held l k i j none h) [
          | inl q ↦ pl.within i (inl q.0)
          | inr q ↦ pl.written i j q.1
        ];
        within = λ i m. pl.within i (inr m);
        some = pl.some;
      };
    } in
    record {
      inv = record {
        actors = actors_after s t a y v keeps (λ b ne. others b) own;
        apart = apart_after s a y v (λ i j h. elim (push_cases x.held l k i j none h) [
          | inl q ↦ inr (λ b m g. no_holder s l k v free b m (ap (lookup (s.actors b).held) (sym q.0) ∙ g))
          | inr q ↦ inl q.1
        ]);
        numbers = numbers_after s a y v num;
        unused = unused_after s a y v num;
        versions = λ i. omega (arith, ver i, v.versions i);
        current = λ i h. v.current i (omega (arith, ver i, h));
        behind = λ i h. omega (
          arith,
          ver i,
          v.behind i
              (behind_before s a y i (λ half n. absurd (let z : IsHalfDone (Take l k ls) = subst IsHalfDone e half in z)) h),
        );
        ordered = v.ordered;
        records = records_kept s t s.history keeps v.records;
        aborted = aborted_kept s t s.aborted keeps v.aborted;
      };
      keeps = keeps;
      opening = refl;
      others = λ b ne. others b;
    }

-- the number of a commit
pub stamped_ok : (s : World) (a : ℕ) → Inv s → (s.actors a).place ≡ Lock [] → Locking (s.actors a).writes (s.actors a).held []
    → Moved s a (stamped s a (s.actors a))
stamped_ok s a v e pl =
    let x = s.actors a in
    let y : Actor = record {
      place = Check (to_check x
          (s.clock + 1));
      declared = x.declared;
      rv = x.rv;
      wv = s.clock + 1;
      reads = x.reads;
      writes = x.writes;
      held = x.held;
      calls = x.calls;
    } in
    let t : World = next s a y (s.clock + 1) s.locks s.values s.history s.aborted in
    let num : IsNumbered s a y = λ h. inr (omega arith) in
    let keeps : Keeps s t = Keeps-no_commit s a y (s.clock + 1) s.locks s.values s.aborted (omega arith) num (λ i. omega arith) in
    let others : (h : Entries) → Same s t h =
    λ h. record { locks = λ i j q. refl; values = λ i j q. refl; stamps = λ i j q. refl; latest = λ i j q. refl } in
    let own : ActorOk t y = record {
      began = omega (arith, (v.actors a).began);
      reads = λ i u h. keeps.good x.rv i u ((v.actors a).reads i u h);
      saw = Saw-kept s t x.rv x.calls keeps (v.actors a).saw;
      sets = (v.actors a).sets;
      kept = λ _. (v.actors a).kept (subst HasBegun (sym e) tt);
      held = (v.actors a).held;
      unique = (v.actors a).unique;
      place = (
        record {
          all_held = λ i u h. elim (pl.covered i u h) [ inl m ↦ absurd m | inr q ↦ q ];
          written = pl.written;
          newer = λ i j h. let q : version_of (s.locks i) ≡ j = ap version_of ((v.actors a).held i j h) in omega (arith, q, v.versions i);
          after_rv = omega (arith, (v.actors a).began);
          made = omega arith;
          some = pl.some;
        },
        λ i u h. cond_both (eqb (x.rv + 1) (s.clock + 1)) [] (locations x.reads)
            (λ (ls : List ℕ). Member i ls ⊎ Good t (s.clock + 1 - 1) i u)
            (λ q. inr (keeps.good (s.clock + 1 - 1) i u
            (let since : x.rv ≡ s.clock + 1 - 1 = omega (arith, eqb-true (x.rv + 1) (s.clock + 1) q) in subst
            (λ (n : ℕ). Good s n i u) since ((v.actors a).reads i u h))))
            (λ _. inl (member_locations x.reads i u h)),
      );
    } in
    record {
      inv = record {
        actors = actors_after s t a y v keeps (λ b ne. others (s.actors b).held) own;
        apart = apart_after s a y v (λ i j h. inl h);
        numbers = numbers_after s a y v num;
        unused = unused_after s a y v num;
        versions = λ i. omega (arith, v.versions i);
        current = v.current;
        behind = λ i h. v.behind i (behind_before s a y i
            (λ half n. absurd (let z : IsHalfDone (Lock []) = subst IsHalfDone e half in z)) h);
        ordered = v.ordered;
        records = records_kept s t s.history keeps v.records;
        aborted = aborted_kept s t s.aborted keeps v.aborted;
      };
      keeps = keeps;
      opening = refl;
      others = λ b ne. others (s.actors b).held;
    }

-- a lock given back, with a word whose version is not below the old one
gives_back_ok : (s : World) (a : ℕ) (f : ℕ × ℕ) (fs : Entries) (w : LockWord) (p : Place) → Inv s → (s.actors a).held ≡ f ∷ fs
    → (IsPending p → ⊥) → HasBegun (s.actors a).place
    → version_of (s.locks f.0) ≤ version_of w → version_of w ≤ s.clock
    → (stamp s.history f.0 ≤ version_of w → s.values f.0 ≡ latest s f.0)
    → (((b : ℕ) → IsHalfDone (s.actors b).place → (b ≡ a → ⊥) → lookup (s.actors b).held f.0 ≡ None) → stamp s.history f.0 ≤ version_of w)
    → ((i : ℕ) → (i ≡ f.0 → ⊥) → IsHalfDone (s.actors a).place → (IsHalfDone p → lookup fs i ≡ None) → lookup (s.actors a).held i ≡ None)
    → PlaceOk s (record {
      place = p;
      declared = (s.actors a).declared;
      rv = (s.actors a).rv;
      wv = (s.actors a).wv;
      reads =
          (s.actors a).reads;
      writes = (s.actors a).writes;
      held = fs;
      calls = (s.actors a).calls;
    }) p
    → Moved s a (gives_back s a (s.actors a) f.0 w fs p)
gives_back_ok s a f fs w p v has np at_p up top cur beh still pl =
    let x = s.actors a in
    let y : Actor =
    record { place = p; declared = x.declared; rv = x.rv; wv = x.wv; reads = x.reads; writes = x.writes; held = fs; calls = x.calls } in
    let words : ℕ → LockWord = put s.locks f.0 w in
    let t : World = next s a y s.clock words s.values s.history s.aborted in
    let uniq : IsUnique (f ∷ fs) = subst IsUnique has (v.actors a).unique in
    let hold : lookup x.held f.0 ≡ Some f.1 = ap (λ (z : Entries). lookup z f.0) has ∙ lookup-head f fs in
    let rest : (i j : ℕ) → lookup fs i ≡ Some j → (i ≡ f.0 → ⊥)
    × (lookup x.held i ≡ Some j) = λ i j h. (let q = rest_entry f fs i j uniq h in (q.0, ap (λ (z : Entries). lookup z i) has ∙ q.1)) in
    let num : IsNumbered s a y = λ h. absurd (np h) in
    let keeps : Keeps s t = Keeps-no_commit s a y s.clock words s.values s.aborted (omega arith) num
    (λ i. put_both (λ (z : LockWord). version_of (s.locks i) ≤ version_of z) s.locks f.0 w i
    (λ q. let z : version_of (s.locks i) ≡ version_of (s.locks f.0) = ap (λ (n : ℕ). version_of (s.locks n)) q in omega (arith, z, up))
    (λ _. omega arith)) in
    let others : (b : ℕ) → (b ≡ a → ⊥) → Same s t (s.actors b).held = λ b ne. record {
      locks = λ i j h. put-other s.locks f.0 w i (λ q. ne (v.apart b a i j f.1 h (ap (lookup x.held) q ∙ hold)));
      values = λ i j h. refl;
      stamps = λ i j h. refl;
      latest = λ i j h. refl;
    } in
    let mine : Same s t fs = record {
      locks = λ i j h. put-other s.locks f.0 w i (rest i j h).0;
      values = λ i j h. refl;
      stamps = λ i j h. refl;
      latest = λ i j h. refl;
    } in
    let own : ActorOk t y = ActorOk-kept s t y keeps mine (record {
      began = (v.actors a).began;
      reads = (v.actors a).reads;
      saw = (v.actors a).saw;
      sets = (v.actors a).sets;
      kept = λ _. (v.actors a).kept at_p;
      held = λ i j h. (v.actors a).held i j (rest i j h).1;
      unique = uniq.1;
      place = pl;
    }) in
    record {
      inv = record {
        actors = actors_after s t a y v keeps others own;
        apart = apart_after s a y v (λ i j h. inl (rest i j h).1);
        numbers = numbers_after s a y v num;
        unused = unused_after s a y v num;
        versions = λ i. put_both (λ (z : LockWord). version_of z ≤ s.clock) s.locks f.0 w i (λ q. top) (λ _. v.versions i);
        current = λ i. put_both (λ (z : LockWord). stamp s.history i ≤ version_of z → s.values i ≡ latest s i) s.locks f.0 w i
            (λ q. subst (λ (n : ℕ). stamp s.history n ≤ version_of w → s.values n ≡ latest s n) (sym q) cur)
            (λ _. v.current i);
        behind = λ i. put_both (λ (z : LockWord).
            ((b : ℕ) → IsHalfDone (put s.actors a y b).place → lookup (put s.actors a y b).held i ≡ None)
            → stamp s.history i ≤ version_of z) s.locks f.0 w i
            (λ q h. subst (λ (n : ℕ). stamp s.history n ≤ version_of w) (sym q) (beh (λ b half ne.
            ap (lookup (s.actors b).held) (sym q)
            ∙ (let P : Actor → Type 0 = λ z. (IsHalfDone z.place → lookup z.held i ≡ None) in subst P (put-other s.actors a y b ne)
            (h b)) half)))
            (λ ne h. v.behind i (behind_before s a y i (still i ne) h));
        ordered = v.ordered;
        records = records_kept s t s.history keeps v.records;
        aborted = aborted_kept s t s.aborted keeps v.aborted;
      };
      keeps = keeps;
      opening = refl;
      others = others;
    }

pub undone_ok : (s : World) (a : ℕ) (h : Entries) → Inv s → (s.actors a).place ≡ Undo → (s.actors a).held ≡ h
    → Moved s a (undone s a (s.actors a) h)
undone_ok s a [] v e has = moved_none s a v
undone_ok s a (f ∷ fs) v e has =
    let hold : lookup (s.actors a).held f.0 ≡ Some f.1 = ap (λ (z : Entries). lookup z f.0) has ∙ lookup-head f fs in
    let ver : version_of (s.locks f.0) ≡ f.1 = ap version_of ((v.actors a).held f.0 f.1 hold) in
    let none : IsHalfDone (s.actors a).place → ⊥ = λ half. (let z : IsHalfDone Undo = subst IsHalfDone e half in z) in
    gives_back_ok s a f fs (Free f.1) Undo v has (λ h. h) (subst HasBegun (sym e) tt) (omega (arith, ver))
    (omega (arith, ver, v.versions f.0))
    (λ h. v.current f.0 (omega (arith, ver, h)))
    (λ h. let q = v.behind f.0 (λ b half. h b half (λ z. none (subst (λ (n : ℕ). IsHalfDone (s.actors n).place) z half))) in omega
    (arith, ver, q))
    (λ i ne half n. absurd (none half))
    tt

-- what a half-done commit has left to give back
rest_done : (s : World) (wv : ℕ) (w : Entries) (f : ℕ × ℕ) (fs : Entries) → IsSomeEntry fs → IsUnique (f ∷ fs) → Done s wv w (f ∷ fs) []
    → Done s wv w fs []
rest_done s wv w f fs some u d = record {
  newer = λ i j h. d.newer i j (rest_entry f fs i j u h).1;
  last = λ i j h. d.last i j (rest_entry f fs i j u h).1;
  made = d.made;
  some = some;
  value = λ i j h. d.value i j (rest_entry f fs i j u h).1;
}

release_ok : (s : World) (a : ℕ) (f : ℕ × ℕ) (fs : Entries) (p : Place) → Inv s → Done s (s.actors a).wv (s.actors a).writes (f ∷ fs) []
    → (s.actors a).held ≡ f ∷ fs → (IsPending p → ⊥) → HasBegun (s.actors a).place
    → ((i : ℕ) → (IsHalfDone p → lookup fs i ≡ None) → lookup fs i ≡ None)
    → PlaceOk s (record {
      place = p;
      declared = (s.actors a).declared;
      rv = (s.actors a).rv;
      wv = (s.actors a).wv;
      reads =
          (s.actors a).reads;
      writes = (s.actors a).writes;
      held = fs;
      calls = (s.actors a).calls;
    }) p
    → Moved s a (gives_back s a (s.actors a) f.0 (Free (s.actors a).wv) fs p)
release_ok s a f fs p v d has np at_p still pl =
    let hold : lookup (s.actors a).held f.0 ≡ Some f.1 = ap (λ (z : Entries). lookup z f.0) has ∙ lookup-head f fs in
    let ver : version_of (s.locks f.0) ≡ f.1 = ap version_of ((v.actors a).held f.0 f.1 hold) in
    let new = d.newer f.0 f.1 (lookup-head f fs) in
    let is = d.last f.0 f.1 (lookup-head f fs) in
    let val = d.value f.0 f.1 (lookup-head f fs) in
    gives_back_ok s a f fs (Free (s.actors a).wv) p v has np at_p (omega (arith, ver, new)) d.made
    (λ h. elim val.3 [ inl q ↦ q ∙ sym val.2 | inr m ↦ absurd m ])
    (λ h. omega (arith, is))
    (λ i ne half n. ap (λ (z : Entries). lookup z i) has ∙ lookup-tail f fs i ne ∙ still i n)
    pl

pub released_ok : (s : World) (a : ℕ) (h : Entries) → Inv s → (s.actors a).place ≡ Release → PlaceOk s (s.actors a) Release
    → (s.actors a).held ≡ h → Moved s a (released s a (s.actors a) h)
unfolding lookup
released_ok s a [] v e d has = absurd (let none : IsSomeEntry [] = subst IsSomeEntry has d.some in none)
released_ok s a (f ∷ []) v e d has =
    release_ok s a f [] Idle v (subst (λ (z : Entries). Done s (s.actors a).wv (s.actors a).writes z []) has d) has (λ h. h)
    (subst HasBegun (sym e) tt) (λ i n. refl) refl
released_ok s a (f ∷ (g ∷ fs)) v e d has =
    let d2 = subst (λ (z : Entries). Done s (s.actors a).wv (s.actors a).writes z []) has d in
    release_ok s a f (g ∷ fs) Release v d2 has (λ h. h) (subst HasBegun (sym e) tt) (λ i n. n tt)
    (rest_done s (s.actors a).wv (s.actors a).writes f (g ∷ fs) tt (subst IsUnique has (v.actors a).unique) d2)

-- a value store after the first
pub stored_ok : (s : World) (a l : ℕ) (ls : List ℕ) → Inv s → (s.actors a).place ≡ Store (l ∷ ls)
    → PlaceOk s (s.actors a) (Store (l ∷ ls)) → Moved s a (stored s a (s.actors a) l ls)
stored_ok s a l ls v e pl =
    let x = s.actors a in
    let d = pl.0 in
    let y : Actor = goes x (Store ls) in
    let u : ℕ = unwrap_or (lookup x.writes l) 0 in
    let words : Memory = put s.values l u in
    let t : World = next s a y s.clock s.locks words s.history s.aborted in
    let hold = pl.1 l (inl refl) in
    let num : IsNumbered s a y = λ h. absurd h in
    let keeps : Keeps s t = Keeps-no_commit s a y s.clock s.locks words s.aborted (omega arith) num (λ i. omega arith) in
    let others : (b : ℕ) → (b ≡ a → ⊥) → Same s t (s.actors b).held = λ b ne. record {
      locks = λ i j h. refl;
      values = λ i j h. put-other s.values l u i (λ q. ne (v.apart b a i j hold.0 h (ap (lookup x.held) q ∙ hold.1)));
      stamps = λ i j h. refl;
      latest = λ i j h. refl;
    } in
    let own : ActorOk t y = record {
      began = (v.actors a).began;
      reads = λ i z h. keeps.good x.rv i z ((v.actors a).reads i z h);
      saw = Saw-kept s t x.rv x.calls keeps (v.actors a).saw;
      sets = (v.actors a).sets;
      kept = λ _. (v.actors a).kept (subst HasBegun (sym e) tt);
      held = (v.actors a).held;
      unique = (v.actors a).unique;
      place = (
        record {
          newer = d.newer;
          last = d.last;
          made = d.made;
          some = d.some;
          value = λ i j h.
              let f = d.value i j h in (
                f.0,
                f.1,
                f.2,
                elim (cases_eq i l) [
                  | inl q ↦ inl (ap words q ∙ put-same s.values l u
                      ∙ ap (λ (z : Option ℕ). unwrap_or z 0) (ap (lookup x.writes) (sym q) ∙ f.1))
                  | inr ne ↦ elim f.3 [
                    | inl g ↦ inl (put-other s.values l u i ne ∙ g)
                    | inr (inl q) ↦ absurd (ne q)
                    | inr (inr m) ↦ inr m
                  ]
                ],
              );
        },
        λ i m. pl.1 i (inr m),
      );
    } in
    record {
      inv = record {
        actors = actors_after s t a y v keeps others own;
        apart = apart_after s a y v (λ i j h. inl h);
        numbers = numbers_after s a y v num;
        unused = unused_after s a y v num;
        versions = v.versions;
        current = λ i h. elim (cases_eq i l) [
          | inl q ↦
              let mine : lookup x.held i ≡ Some hold.0 = ap (lookup x.held) q ∙ hold.1 in
              let ver : version_of (s.locks i) ≡ hold.0 = ap version_of ((v.actors a).held i hold.0 mine) in
              absurd (omega (arith, ver, h, d.last i hold.0 mine, d.newer i hold.0 mine))
          | inr ne ↦ put-other s.values l u i ne ∙ v.current i h
        ];
        behind = λ i h. v.behind i (behind_before s a y i (λ half n. n tt) h);
        ordered = v.ordered;
        records = records_kept s t s.history keeps v.records;
        aborted = aborted_kept s t s.aborted keeps v.aborted;
      };
      keeps = keeps;
      opening = refl;
      others = others;
    }

-- a commit's record writes what the write set has
is_written : (s : World) (a : ℕ) → Inv s → (i : ℕ)
    → ((lookup (s.actors a).writes i ≡ None) × (touched (s.actors a).calls i ≡ false)) ⊎
    ((u : ℕ) × (lookup (s.actors a).writes i ≡ Some u) × (touched (s.actors a).calls i ≡ true))
is_written s a v i = go (lookup (s.actors a).writes i) refl
  where
    go : (o : Option ℕ) → lookup (s.actors a).writes i ≡ o
        → ((lookup (s.actors a).writes i ≡ None) × (touched (s.actors a).calls i ≡ false)) ⊎
        ((u : ℕ) × (lookup (s.actors a).writes i ≡ Some u) × (touched (s.actors a).calls i ≡ true))
    go None h = inl (h, (v.actors a).sets.not_written i h)
    go (Some u) h = inr (u, h, (v.actors a).sets.written i u h)

-- What the words are after the first value store.
pub record FirstStored (s : World) (x : Actor) (values : Memory) (ls : List ℕ) : Type 0 where
  pub same : (i : ℕ) → lookup x.writes i ≡ None → values i ≡ s.values i
  pub value : (i u : ℕ) → lookup x.writes i ≡ Some u → (values i ≡ u) ⊎ Member i ls
  pub within : (i : ℕ) → Member i ls → (u : ℕ) × (lookup x.writes i ≡ Some u)

-- each written location is held, so a commit that writes holds a lock
some_lookup : (w h : Entries) → IsSomeEntry w → ((l v : ℕ) → lookup w l ≡ Some v → (k : ℕ) × (lookup h l ≡ Some k)) → IsSomeEntry h
unfolding lookup
some_lookup [] h n f = absurd n
some_lookup (e ∷ es) [] n f = let q = f e.0 e.1 (lookup-head e es) in (let z : Some q.0 ≡ None = sym q.1 in absurd (let b : ⊥ = cc in b))
some_lookup (e ∷ es) (g ∷ gs) n f = tt

-- a transaction that writes is no declared reader, so its read set is all that it has seen
pub writer_keeps : (declared : Bool) (reads writes seen : Entries) → IsSomeEntry writes → IsKept declared reads writes seen → seen ≡ reads
writer_keeps true reads writes seen some kept = absurd (let none : IsSomeEntry [] = subst IsSomeEntry kept.1 some in none)
writer_keeps false reads writes seen some kept = kept

-- the commit of a writer
commits_ok : (s : World) (a : ℕ) (values : Memory) (ls : List ℕ) → Inv s → (s.actors a).place ≡ First → PlaceOk s (s.actors a) First
    → FirstStored s (s.actors a) values ls → Moved s a (commits s a (s.actors a) values ls)
commits_ok s a values ls v e pl fst =
    let x = s.actors a in
    let st = pl.0 in
    let y : Actor = goes x (Store ls) in
    let r : Record = record { actor = a; number = x.wv; writer = true; calls = x.calls } in
    let h2 : List Record = insert r s.history in
    let t : World = next s a y s.clock s.locks values h2 s.aborted in
    let pend : IsPending (s.actors a).place = subst IsPending (sym e) tt in
    let not_half : IsHalfDone (s.actors a).place → ⊥ = λ half. (let z : IsHalfDone First = subst IsHalfDone e half in z) in
    let num : IsNumbered s a y = λ h. absurd h in
    let new : IsNew r s.history = isnew s.history x.wv a x.calls (v.unused a pend) in
    let mine : (i u : ℕ) → lookup x.writes i ≡ Some u → (k : ℕ) × (lookup x.held i ≡ Some k) × (version_of (s.locks i) ≡ k) × (k < x.wv)
    × (stamp s.history i ≤ k) = λ i u h. (
    let q = st.all_held i u h in
    let ver : version_of (s.locks i) ≡ q.0 = ap version_of ((v.actors a).held i q.0 q.1) in
    let b = v.behind i (λ b half. none_if (lookup (s.actors b).held i)
    (λ j g. not_half (subst (λ (n : ℕ). IsHalfDone (s.actors n).place) (v.apart b a i j q.0 g q.1) half))) in
    (q.0, q.1, ver, st.newer i q.0 q.1, omega (arith, b, ver))) in
    let stamps : (i u : ℕ) → lookup x.writes i ≡ Some u → touched x.calls i ≡ true → stamp h2 i ≡ x.wv = λ i u h w. (
    let q = mine i u h in stamp_touched r s.history i w ∙ (let z : max x.wv (stamp s.history i) ≡ x.wv = omega (arith, q.3, q.4) in z)) in
    let keeps : Keeps s t = record {
      clock = omega arith;
      versions = λ i. omega arith;
      latest = λ i k b h. elim (is_written s a v i) [
        | inl f ↦ (omega (arith, stamp_untouched r s.history i f.1, h), finals_untouched r s.history i (s.opening i) f.1)
        | inr f ↦ (let q = mine i f.0 f.1 in let z = stamps i f.0 f.1 f.2 in absurd (omega (arith, q.2, q.3, z, h, b)))
      ];
      good = λ n i u g. record {
        past = g.past;
        value = elim (is_written s a v i) [
          | inl f ↦ settled_untouched r s.history n i (s.opening i) f.1 ∙ g.value
          | inr f ↦ elim (cases_le x.wv n) [
            | inl le ↦ (let z : Some f.0 ≡ None = sym f.1 ∙ g.fixed a pend le in cc)
            | inr gt ↦ settled_later r s.history n i (s.opening i) gt ∙ g.value
          ]
        ];
        fixed = λ b. put_both (λ (z : Actor). IsPending z.place → z.wv ≤ n → lookup z.writes i ≡ None) s.actors a y b
            (λ _ p w. absurd p) (λ _. g.fixed b);
      };
    } in
    let others : (b : ℕ) → (b ≡ a → ⊥) → Same s t (s.actors b).held = λ b ne. (
    let free : (i j : ℕ) → lookup (s.actors b).held i ≡ Some j → (lookup x.writes i ≡ None)
    × (touched x.calls i ≡ false) = λ i j h. elim (is_written s a v i) [
      | inl f ↦ f
      | inr f ↦ (let q = mine i f.0 f.1 in absurd (ne (v.apart b a i j q.0 h q.1)))
    ] in
    record {
      locks = λ i j h. refl;
      values = λ i j h. fst.same i (free i j h).0;
      stamps = λ i j h. stamp_untouched r s.history i (free i j h).1;
      latest = λ i j h. finals_untouched r s.history i (s.opening i) (free i j h).1;
    }) in
    let some_held : IsSomeEntry x.held = some_lookup x.writes x.held st.some st.all_held in
    let all_read : (v.actors a).saw.reads ≡ x.reads = writer_keeps x.declared x.reads x.writes (v.actors a).saw.reads st.some
    ((v.actors a).kept (subst HasBegun (sym e) tt)) in
    let own : ActorOk t y = record {
      began = (v.actors a).began;
      reads = λ i u h. keeps.good x.rv i u ((v.actors a).reads i u h);
      saw = Saw-kept s t x.rv x.calls keeps (v.actors a).saw;
      sets = (v.actors a).sets;
      kept = λ _. (v.actors a).kept (subst HasBegun (sym e) tt);
      held = (v.actors a).held;
      unique = (v.actors a).unique;
      place = (
        record {
          newer = st.newer;
          last = λ i j h. (let w = st.written i j h in stamps i w.0 w.1 ((v.actors a).sets.written i w.0 w.1));
          made = st.made;
          some = some_held;
          value = λ i j h. (
              let w = st.written i j h in
              let q = mine i w.0 w.1 in
              let touch = (v.actors a).sets.written i w.0 w.1 in (
                w.0,
                w.1,
                finals_touched r s.history i (s.opening i) v.ordered new touch (omega (arith, q.3, q.4))
                    ∙ (v.actors a).sets.last i w.0 w.1 0,
                fst.value i w.0 w.1,
              ));
        },
        λ i m. (let w = fst.within i m in st.all_held i w.0 w.1),
      );
    } in
    record {
      inv = record {
        actors = actors_after s t a y v keeps others own;
        apart = apart_after s a y v (λ i j h. inl h);
        numbers = numbers_after s a y v num;
        unused = λ b. put_both (λ (z : Actor). IsPending z.place
            → AllRecords (λ c. (c.writer ≡ true → z.wv ≡ c.number → ⊥)) h2) s.actors a y b
            (λ _ p. absurd p)
            (λ ne p. AllRecords-insert (λ c. (c.writer ≡ true → (s.actors b).wv ≡ c.number → ⊥)) r s.history
            (λ _ q. ne (v.numbers b a p pend q)) (v.unused b p));
        versions = v.versions;
        current = λ i h. elim (is_written s a v i) [
          | inl f ↦ fst.same i f.0 ∙ v.current i (omega (arith, stamp_untouched r s.history i f.1, h))
              ∙ sym (finals_untouched r s.history i (s.opening i) f.1)
          | inr f ↦ (let q = mine i f.0 f.1 in let z = stamps i f.0 f.1 f.2 in absurd (omega (arith, q.2, q.3, z, h)))
        ];
        behind = λ i h. elim (is_written s a v i) [
          | inl f ↦ (let q = v.behind i (behind_before s a y i (λ half n. absurd (not_half half)) h) in omega
              (arith, q, stamp_untouched r s.history i f.1))
          | inr f ↦
              (let q = mine i f.0 f.1 in
              let P : Actor → Type 0 = λ z. (IsHalfDone z.place → lookup z.held i ≡ None) in
              let none : lookup x.held i ≡ None = subst P (put-same s.actors a y) (h a) tt in
              let z : Some q.0 ≡ None = sym q.1 ∙ none in cc)
        ];
        ordered = IsInOrder-insert r s.history v.ordered new;
        records = AllRecords-insert (RecordOk t) r s.history (record {
          past = st.made;
          positive = λ _. omega (arith, st.after_rv);
          reader = λ q. absurd (true≢false q);
          saw = record {
            reads = x.reads;
            legal = λ m g. (v.actors a).saw.legal m (λ i u h. g i u (ap (λ (z : Entries). lookup z i) (sym all_read) ∙ h));
            good = λ i u h. elim (pl.1 i u h) [ inl m ↦ absurd m | inr g ↦ keeps.good (x.wv - 1) i u g ];
          };
        }) (records_kept s t s.history keeps v.records);
        aborted = aborted_kept s t s.aborted keeps v.aborted;
      };
      keeps = keeps;
      opening = refl;
      others = others;
    }
  where
    cases_le : (m n : ℕ) → (m ≤ n) ⊎ (n < m)
    cases_le m n = grind arith

    isnew : (h : List Record) (n b : ℕ) (cs : List Call) → AllRecords (λ c. (c.writer ≡ true → n ≡ c.number → ⊥)) h
        → IsNew (record { actor = b; number = n; writer = true; calls = cs }) h
    isnew [] n b cs g = tt
    isnew (c ∷ h) n b cs g = ((λ _ w q. g.0 w q), isnew h n b cs g.1)

pub first_ok : (s : World) (a : ℕ) (w : Entries) → Inv s → (s.actors a).place ≡ First → PlaceOk s (s.actors a) First
    → (s.actors a).writes ≡ w → Moved s a (first s a (s.actors a) w)
first_ok s a [] v e pl hw = absurd (let none : IsSomeEntry [] = subst IsSomeEntry hw (pl.0).some in none)
first_ok s a (f ∷ fs) v e pl hw =
    let has : (i : ℕ) → lookup (s.actors a).writes i ≡ lookup (f ∷ fs) i = λ i. ap (λ (z : Entries). lookup z i) hw in
    commits_ok s a (put s.values f.0 f.1) (locations fs) v e pl (record {
      same = λ i h. put-other s.values f.0 f.1 i
          (λ q. (let z : Some f.1 ≡ None = sym (lookup-head f fs) ∙ ap (lookup (f ∷ fs)) (sym q) ∙ sym (has i) ∙ h in cc));
      value = λ i u h. elim (cases_eq i f.0) [
        | inl q ↦ (let z : Some f.1 ≡ Some u = sym (lookup-head f fs) ∙ ap (lookup (f ∷ fs)) (sym q) ∙ sym (has i) ∙ h in
            let g : f.1 ≡ u = cc in inl (ap (put s.values f.0 f.1) q ∙ put-same s.values f.0 f.1 ∙ g))
        | inr ne ↦ inr (member_locations fs i u (sym (lookup-tail f fs i ne) ∙ sym (has i) ∙ h))
      ];
      within = λ i m. elim (cases_eq i f.0) [
        | inl q ↦ (f.1, has i ∙ ap (lookup (f ∷ fs)) q ∙ lookup-head f fs)
        | inr ne ↦ (let w = locations_member fs i m in (w.0, has i ∙ lookup-tail f fs i ne ∙ w.1))
      ];
    })

-- the commit of a reader
pub closed_ok : (s : World) (a : ℕ) → Inv s → (s.actors a).place ≡ Close → PlaceOk s (s.actors a) Close
    → Moved s a (closed s a (s.actors a))
unfolding lookup
closed_ok s a v e pl =
    let x = s.actors a in
    let y : Actor = goes x Idle in
    let r : Record = record { actor = a; number = x.rv; writer = false; calls = x.calls } in
    let h2 : List Record = insert r s.history in
    let t : World = next s a y s.clock s.locks s.values h2 s.aborted in
    let un : (i : ℕ) → touched x.calls i ≡ false = λ i. (v.actors a).sets.not_written i (ap (λ (z : Entries). lookup z i) pl.1) in
    let not_half : IsHalfDone (s.actors a).place → ⊥ = λ half. (let z : IsHalfDone Close = subst IsHalfDone e half in z) in
    let num : IsNumbered s a y = λ h. absurd h in
    let keeps : Keeps s t = record {
      clock = omega arith;
      versions = λ i. omega arith;
      latest = λ i k b h. (omega (arith, stamp_untouched r s.history i (un i), h), finals_untouched r s.history i (s.opening i) (un i));
      good = λ n i u g. record {
        past = g.past;
        value = settled_untouched r s.history n i (s.opening i) (un i) ∙ g.value;
        fixed = λ b. put_both (λ (z : Actor). IsPending z.place → z.wv ≤ n → lookup z.writes i ≡ None) s.actors a y b
            (λ _ p w. absurd p) (λ _. g.fixed b);
      };
    } in
    let same : (h : Entries) → Same s t h = λ h. record {
      locks = λ i j q. refl;
      values = λ i j q. refl;
      stamps = λ i j q. stamp_untouched r s.history i (un i);
      latest = λ i j q. finals_untouched r s.history i (s.opening i) (un i);
    } in
    let own : ActorOk t y = record {
      began = (v.actors a).began;
      reads = λ i u h. keeps.good x.rv i u ((v.actors a).reads i u h);
      saw = Saw-kept s t x.rv x.calls keeps (v.actors a).saw;
      sets = (v.actors a).sets;
      kept = λ _. (v.actors a).kept (subst HasBegun (sym e) tt);
      held = (v.actors a).held;
      unique = (v.actors a).unique;
      place = pl.0;
    } in
    record {
      inv = record {
        actors = actors_after s t a y v keeps (λ b ne. same (s.actors b).held) own;
        apart = apart_after s a y v (λ i j h. inl h);
        numbers = numbers_after s a y v num;
        unused = λ b. put_both (λ (z : Actor). IsPending z.place
            → AllRecords (λ c. (c.writer ≡ true → z.wv ≡ c.number → ⊥)) h2) s.actors a y b
            (λ _ p. absurd p)
            (λ ne p. AllRecords-insert (λ c. (c.writer ≡ true → (s.actors b).wv ≡ c.number → ⊥)) r s.history (λ w q. true≢false (sym w))
            (v.unused b p));
        versions = v.versions;
        current = λ i h. v.current i (omega (arith, stamp_untouched r s.history i (un i), h))
            ∙ sym (finals_untouched r s.history i (s.opening i) (un i));
        behind = λ i h. (let q = v.behind i (behind_before s a y i (λ half n. absurd (not_half half)) h) in omega
            (arith, q, stamp_untouched r s.history i (un i)));
        ordered = IsInOrder-insert r s.history v.ordered (isnew s.history x.rv a x.calls);
        records = AllRecords-insert (RecordOk t) r s.history (record {
          past = (v.actors a).began;
          positive = λ q. absurd (true≢false (sym q));
          reader = λ q. un;
          saw = Saw-kept s t x.rv x.calls keeps (v.actors a).saw;
        }) (records_kept s t s.history keeps v.records);
        aborted = aborted_kept s t s.aborted keeps v.aborted;
      };
      keeps = keeps;
      opening = refl;
      others = λ b ne. same (s.actors b).held;
    }
  where
    isnew : (h : List Record) (n b : ℕ) (cs : List Call) → IsNew (record { actor = b; number = n; writer = false; calls = cs }) h
    isnew [] n b cs = tt
    isnew (c ∷ h) n b cs = ((λ w _ _. true≢false (sym w)), isnew h n b cs)
