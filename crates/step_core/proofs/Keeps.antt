-- What an actor's own steps keep.
use Rattle.std.proofs.Common.{Bool, true, false, Result, Ok, Err, OnOk, IsOk, Option, Some, None, zero, suc, [], ◌∷◌, ◌++◌, length, ◌≡◌, ℕ}
use Rattle.std.proofs.Common.{◌+◌, ◌<◌, ◌≤◌, ◌^◌, refl, ap, sym, subst, arith, ◌∙◌}
use Rattle.std.specs.List.{All}
use Rattle.std.specs.Prelude.{nat_lt, if◌then◌else◌}
use Rattle.std.proofs.Common.{inl, inr, ltb, ltb-true}
use Rattle.std.proofs.lemmas.Bool.{cases_Bool, cond-false}
use Rattle.step_core.specs.declared.answer.WordRefusal.TheVariants.{TooLong}
use Rattle.tx_sets.specs.declared.access_set.TheConstants.{LOCATION_LIMIT}
use Rattle.tx_sets.specs.Entries.{Entries, IsRising, lookup, with_entry}
use Rattle.tx_sets.proofs.EntryLemmas.{All-with_entry, IsRising-with_entry, length-with_entry_new, length-with_entry_there}
use Rattle.tx_machine.specs.Actor.{with_read}
use Rattle.step_core.specs.Phases.{if_new}
use Rattle.std.specs.VecDeque.{deque_len, deque_capacity}
use Rattle.std.proofs.lemmas.List.Elements.{All-append}
use Rattle.step_core.specs.Sound.{FitsPlace, Fits, Keeps, owed, due}
use Rattle.step_core.specs.declared.actor.Actor.{Actor}
use Rattle.step_core.specs.declared.actor.Place.TheVariants.{Open, Again, Lock, Take}

-- a list of one
All-one : (P : ℕ × ℕ → Type 0) (e : ℕ × ℕ) → P e → All P (e ∷ [])
All-one P e p zero d h = p
All-one P e p (suc k) d h = absurd (omega (arith, h))

-- a set within its limit remains so, where a new location finds a place left
few-with_entry : (es : Entries) (l v : ℕ) → IsRising es → length es ≤ LOCATION_LIMIT → (lookup es l ≡ None → length es < LOCATION_LIMIT)
    → length (with_entry es l v) ≤ LOCATION_LIMIT
few-with_entry es l v rise few room = go (lookup es l) refl
  where
    go : (found : Option ℕ) → lookup es l ≡ found → length (with_entry es l v) ≤ LOCATION_LIMIT
    go None e = (let q = length-with_entry_new es l v e in let r = room e in omega (arith, q, r))
    go (Some u) e = (let q = length-with_entry_there es l v rise (λ z. let w : Some u ≡ None = sym e ∙ z in let b : ⊥ = cc in b) in omega
        (arith, q, few))

-- what the limit of a set says of a new location
pub place_left : (es : Entries) (l : ℕ) → if_new (lookup es l) None es ≡ None → lookup es l ≡ None → length es < LOCATION_LIMIT
place_left es l h e = below (length es) (subst (λ (o : Option ℕ). if_new o None es ≡ None) e h)
  where
    below : (n : ℕ) → (if nat_lt n LOCATION_LIMIT then None else Some TooLong) ≡ None → n < LOCATION_LIMIT
    below n h = elim (cases_Bool (ltb n LOCATION_LIMIT)) [
      | inl t ↦ ltb-true n LOCATION_LIMIT t
      | inr f ↦ (let z : Some TooLong ≡ None = sym (cond-false (ltb n LOCATION_LIMIT) None (Some TooLong) f) ∙ h in
          let b : ⊥ = cc in absurd b)
    ]

pub lock_keeps : (x : Actor) (l k i : ℕ) → x.place ≡ Lock i → i < length x.writes.entries → ((n : ℕ) → Fits n x → l < n) → k < 2 ^ 63
    → Keeps x (record {
      place = Take l k (i + 1);
      declared = x.declared;
      rv = x.rv;
      wv = x.wv;
      reads = x.reads;
      writes = x.writes;
      held = x.held;
      calls = x.calls;
      ready = x.ready;
    })
lock_keeps x l k i at_p inn below small = record {
  fits = λ n f. record {
    reads = f.reads;
    writes = f.writes;
    reads_rise = f.reads_rise;
    writes_rise = f.writes_rise;
    reads_few = f.reads_few;
    writes_few = f.writes_few;
    held = f.held;
    wv = f.wv;
    place = (below n f, small, omega (arith, subst (FitsPlace n x) at_p f.place, inn));
  };
  owed = (let q = ap owed at_p in omega (arith, q));
  due = (let q = ap due at_p in omega (arith, q));
}

-- a read set with one read more, or, of a declared reader, as it was
All-with_read : (P : ℕ × ℕ → Type 0) (declared : Bool) (es : Entries) (l v : ℕ) → P (l, v) → All P es → All P (with_read declared es l v)
All-with_read P true es l v p a = a
All-with_read P false es l v p a = All-with_entry P es l v p a

IsRising-with_read : (declared : Bool) (es : Entries) (l v : ℕ) → IsRising es → IsRising (with_read declared es l v)
IsRising-with_read true es l v r = r
IsRising-with_read false es l v r = IsRising-with_entry es l v r

few-with_read : (declared : Bool) (es : Entries) (l v : ℕ) → IsRising es → length es ≤ LOCATION_LIMIT → length es < LOCATION_LIMIT
    → length (with_read declared es l v) ≤ LOCATION_LIMIT
few-with_read true es l v rise few room = few
few-with_read false es l v rise few room = few-with_entry es l v rise few (λ _. room)

pub read_keeps : (x y : Actor) (l k v : ℕ) → x.place ≡ Again l k v → y.place ≡ Open → y.wv ≡ x.wv → y.reads.entries
    ≡ with_read x.declared x.reads.entries l v → y.writes.entries ≡ x.writes.entries → y.held.items ≡ x.held.items → Keeps x y
read_keeps x y l k v at_p at_q wv rs ws hs = record {
  fits = λ n f. (let pl = subst (FitsPlace n x) at_p f.place in record {
    reads = subst (All (λ (e : ℕ × ℕ). e.0 < n)) (sym rs)
        (All-with_read (λ (e : ℕ × ℕ). e.0 < n) x.declared x.reads.entries l v pl.0 f.reads);
    writes = subst (All (λ (e : ℕ × ℕ). e.0 < n)) (sym ws) f.writes;
    reads_rise = subst IsRising (sym rs) (IsRising-with_read x.declared x.reads.entries l v f.reads_rise);
    writes_rise = subst IsRising (sym ws) f.writes_rise;
    reads_few = subst (λ (es : Entries). length es ≤ LOCATION_LIMIT) (sym rs)
        (few-with_read x.declared x.reads.entries l v f.reads_rise f.reads_few pl.2);
    writes_few = subst (λ (es : Entries). length es ≤ LOCATION_LIMIT) (sym ws) f.writes_few;
    held = subst (All (λ (e : ℕ × ℕ). (e.0 < n) × (e.1 < 2 ^ 63))) (sym hs) f.held;
    wv = subst (λ (z : ℕ). z < 2 ^ 63) (sym wv) f.wv;
    place = subst (FitsPlace n y) (sym at_q) tt;
  });
  owed = (let q = ap owed at_p in let r = ap owed at_q in omega (arith, q, r));
  due = (let q = ap due at_p in let r = ap due at_q in omega (arith, q, r));
}

pub take_keeps : (x y : Actor) (l k i : ℕ) → x.place ≡ Take l k i → y.place ≡ Lock i → y.wv ≡ x.wv → y.held.items ≡ x.held.items
    ++ (l, k) ∷ [] → deque_len y.held ≡ deque_len x.held + 1 → deque_capacity y.held ≡ deque_capacity x.held
    → y.reads.entries ≡ x.reads.entries → y.writes.entries ≡ x.writes.entries → length y.writes.entries ≡ length x.writes.entries
    → Keeps x y
take_keeps x y l k i at_p at_q wv hs len most rs ws w = record {
  fits = λ n f. (let pl = subst (FitsPlace n x) at_p f.place in record {
    reads = subst (All (λ (e : ℕ × ℕ). e.0 < n)) (sym rs) f.reads;
    writes = subst (All (λ (e : ℕ × ℕ). e.0 < n)) (sym ws) f.writes;
    reads_rise = subst IsRising (sym rs) f.reads_rise;
    writes_rise = subst IsRising (sym ws) f.writes_rise;
    reads_few = subst (λ (es : Entries). length es ≤ LOCATION_LIMIT) (sym rs) f.reads_few;
    writes_few = subst (λ (es : Entries). length es ≤ LOCATION_LIMIT) (sym ws) f.writes_few;
    held = subst (All (λ (e : ℕ × ℕ). (e.0 < n) × (e.1 < 2 ^ 63))) (sym hs)
        (All-append (λ (e : ℕ × ℕ). (e.0 < n) × (e.1 < 2 ^ 63)) x.held.items ((l, k) ∷ []) f.held
        (All-one (λ (e : ℕ × ℕ). (e.0 < n) × (e.1 < 2 ^ 63)) (l, k) (pl.0, pl.1)));
    wv = subst (λ (z : ℕ). z < 2 ^ 63) (sym wv) f.wv;
    place = subst (FitsPlace n y) (sym at_q) (omega (arith, pl.2, len, most, w));
  });
  owed = (let q = ap owed at_p in let r = ap owed at_q in omega (arith, q, r));
  due = (let q = ap due at_p in let r = ap due at_q in omega (arith, q, r));
}

-- a write in the write set
pub write_fits : (n : ℕ) (x y : Actor) (l v : ℕ) → x.place ≡ Open → l < n → if_new (lookup x.writes.entries l) None x.writes.entries
    ≡ None → y.writes.entries ≡ with_entry x.writes.entries l v → Fits n x → y.place ≡ x.place → y.wv ≡ x.wv → y.reads.entries
    ≡ x.reads.entries
    → y.held.items ≡ x.held.items → Fits n y
write_fits n x y l v at_p below limit ws f same wv rs hs = record {
  reads = subst (All (λ (e : ℕ × ℕ). e.0 < n)) (sym rs) f.reads;
  writes = subst (All (λ (e : ℕ × ℕ). e.0 < n)) (sym ws) (All-with_entry (λ (e : ℕ × ℕ). e.0 < n) x.writes.entries l v below f.writes);
  reads_rise = subst IsRising (sym rs) f.reads_rise;
  writes_rise = subst IsRising (sym ws) (IsRising-with_entry x.writes.entries l v f.writes_rise);
  reads_few = subst (λ (es : Entries). length es ≤ LOCATION_LIMIT) (sym rs) f.reads_few;
  writes_few = subst (λ (es : Entries). length es ≤ LOCATION_LIMIT) (sym ws)
      (few-with_entry x.writes.entries l v f.writes_rise f.writes_few (place_left x.writes.entries l limit));
  held = subst (All (λ (e : ℕ × ℕ). (e.0 < n) × (e.1 < 2 ^ 63))) (sym hs) f.held;
  wv = subst (λ (z : ℕ). z < 2 ^ 63) (sym wv) f.wv;
  place = subst (FitsPlace n y) (sym (same ∙ at_p)) tt;
}

-- what holds of a success
pub was_ok : {A E P : Type 0} → (r : Result A E) → IsOk r → OnOk r P → P
was_ok (Ok v) h p = p
was_ok (Err e) h p = absurd (let b : ⊥ = cc in b)
