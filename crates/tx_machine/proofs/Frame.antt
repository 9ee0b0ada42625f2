-- What a step of one actor leaves of all the rest.
use Rattle.std.proofs.Common.{◌≡◌, ℕ, ◌-◌, ◌<◌, ◌≤◌, true, Some, None, List, [], ◌∷◌, ◌⊎◌, inl, inr, refl, sym, ap, ◌∙◌, subst, arith}
use Rattle.vlock_word.specs.declared.lock_word.LockWord.{LockWord}
use Rattle.vlock_word.specs.LockWord.{version_of}
use Rattle.tx_sets.specs.Entries.{Entries, lookup}
use Rattle.tx_machine.specs.Actor.{Call, Place, Idle, Begin, Open, Look, Fetch, Again, Lock, Take, Check, Broken, First, Store, Release}
use Rattle.tx_machine.specs.Actor.{Undo, Leave, Close, Actor}
use Rattle.tx_machine.specs.World.{Memory, put, Record, Ended, World, now}
use Rattle.tx_machine.specs.Opacity.{IsHalfDone, AllEnded}
use Rattle.std.proofs.lemmas.Bool.{cases_eq}
use Rattle.tx_machine.proofs.Sets.{put_both, put-same, put-other}
use Rattle.tx_machine.proofs.Records.{stamp, AllRecords, AllRecords_map, base}
use Rattle.tx_machine.proofs.Invariant.{IsPending, Good, Saw, latest, Stamped, Checked, Done, PlaceOk, ActorOk, RecordOk, Inv}

-- What every step leaves.
pub record Keeps (s t : World) : Type 0 where
  pub clock : s.clock ≤ t.clock
  pub good : (n l v : ℕ) → Good s n l v → Good t n l v
  pub versions : (l : ℕ) → version_of (s.locks l) ≤ version_of (t.locks l)
  pub latest : (l k : ℕ) → k ≤ version_of (s.locks l) → stamp t.history l ≤ k → (stamp s.history l ≤ k) × (latest t l ≡ latest s l)

-- What a step leaves of the words that another holds.
pub record Same (s t : World) (held : Entries) : Type 0 where
  pub locks : (l k : ℕ) → lookup held l ≡ Some k → t.locks l ≡ s.locks l
  pub values : (l k : ℕ) → lookup held l ≡ Some k → t.values l ≡ s.values l
  pub stamps : (l k : ℕ) → lookup held l ≡ Some k → stamp t.history l ≡ stamp s.history l
  pub latest : (l k : ℕ) → lookup held l ≡ Some k → latest t l ≡ latest s l

Stamped-kept : (c d rv wv : ℕ) (w h : Entries) → c ≤ d → Stamped c rv wv w h → Stamped d rv wv w h
Stamped-kept c d rv wv w h le g = record {
  all_held = g.all_held;
  written = g.written;
  newer = g.newer;
  after_rv = g.after_rv;
  made = omega (arith, le, g.made);
  some = g.some;
}

Checked-kept : (s t : World) (wv : ℕ) (r : Entries) (ls : List ℕ) → Keeps s t → Checked s wv r ls → Checked t wv r ls
Checked-kept s t wv r ls k g l v h = elim (g l v h) [ inl m ↦ inl m | inr q ↦ inr (k.good (wv - 1) l v q) ]

Done-kept : (s t : World) (wv : ℕ) (w h : Entries) (ls : List ℕ) → Keeps s t → Same s t h → Done s wv w h ls → Done t wv w h ls
Done-kept s t wv w h ls k m g = record {
  newer = g.newer;
  last = λ l j q. m.stamps l j q ∙ g.last l j q;
  made = omega (arith, k.clock, g.made);
  some = g.some;
  value = λ l j q.
      let f = g.value l j q in
      (f.0, f.1, m.latest l j q ∙ f.2, elim f.3 [ inl e ↦ inl (m.values l j q ∙ e) | inr i ↦ inr i ]);
}

pub PlaceOk-kept : (s t : World) (x : Actor) (p : Place) → Keeps s t → Same s t x.held → PlaceOk s x p → PlaceOk t x p
PlaceOk-kept s t x Idle k m g = g
PlaceOk-kept s t x Begin k m g = g
PlaceOk-kept s t x Open k m g = g
PlaceOk-kept s t x (Look l) k m g = g
PlaceOk-kept s t x (Fetch l v) k m g = (g.0, g.1, omega (arith, g.2, k.versions l))
PlaceOk-kept s t x (Again l j v) k m g =
    (g.0, g.1, omega (arith, g.2, k.versions l), λ q. let f = k.latest l j g.2 q in f.1 ∙ g.3 f.0)
PlaceOk-kept s t x (Lock ls) k m g = g
PlaceOk-kept s t x (Take l j ls) k m g = g
PlaceOk-kept s t x (Check ls) k m g =
    (Stamped-kept s.clock t.clock x.rv x.wv x.writes x.held k.clock g.0, Checked-kept s t x.wv x.reads ls k g.1)
PlaceOk-kept s t x Broken k m g = tt
PlaceOk-kept s t x First k m g =
    (Stamped-kept s.clock t.clock x.rv x.wv x.writes x.held k.clock g.0, Checked-kept s t x.wv x.reads [] k g.1)
PlaceOk-kept s t x (Store ls) k m g = (Done-kept s t x.wv x.writes x.held ls k m g.0, g.1)
PlaceOk-kept s t x Release k m g = Done-kept s t x.wv x.writes x.held [] k m g
PlaceOk-kept s t x Undo k m g = tt
PlaceOk-kept s t x Leave k m g = g
PlaceOk-kept s t x Close k m g = g

abbrev pub Saw-kept : (s t : World) (n : ℕ) (cs : List Call) → Keeps s t → Saw s n cs → Saw t n cs
Saw-kept s t n cs k g = record { reads = g.reads; legal = g.legal; good = λ l v h. k.good n l v (g.good l v h) }

pub ActorOk-kept : (s t : World) (x : Actor) → Keeps s t → Same s t x.held → ActorOk s x → ActorOk t x
ActorOk-kept s t x k m g = record {
  began = omega (arith, k.clock, g.began);
  reads = λ l v h. k.good x.rv l v (g.reads l v h);
  saw = Saw-kept s t x.rv x.calls k g.saw;
  sets = g.sets;
  kept = g.kept;
  held = λ l j h. m.locks l j h ∙ g.held l j h;
  unique = g.unique;
  place = PlaceOk-kept s t x x.place k m g.place;
}

pub RecordOk-kept : (s t : World) (r : Record) → Keeps s t → RecordOk s r → RecordOk t r
RecordOk-kept s t r k g = record {
  past = omega (arith, k.clock, g.past);
  positive = g.positive;
  reader = g.reader;
  saw = Saw-kept s t (base r.writer r.number) r.calls k g.saw;
}

pub records_kept : (s t : World) (h : List Record) → Keeps s t → AllRecords (RecordOk s) h → AllRecords (RecordOk t) h
records_kept s t h k g = AllRecords_map (RecordOk s) (RecordOk t) h (λ r q. RecordOk-kept s t r k q) g

pub aborted_kept : (s t : World) (es : List Ended) → Keeps s t → AllEnded (λ e. Saw s e.rv e.calls) es
    → AllEnded (λ e. Saw t e.rv e.calls) es
aborted_kept s t [] k g = tt
aborted_kept s t (e ∷ es) k g = (Saw-kept s t e.rv e.calls k g.0, aborted_kept s t es k g.1)

-- The world after a step of actor a, which is y now.
abbrev pub next : World → ℕ → Actor → ℕ → (ℕ → LockWord) → Memory → List Record → List Ended → World
next s a y clock locks values history aborted =
    record {
      opening = s.opening;
      clock = clock;
      locks = locks;
      values = values;
      actors = put s.actors a y;
      history = history;
      aborted = aborted;
    }

-- y's number is the one that a had, or a new one
abbrev pub IsNumbered : World → ℕ → Actor → Type 0
IsNumbered s a y = IsPending y.place → (IsPending (s.actors a).place × ((s.actors a).wv ≡ y.wv) × ((s.actors a).writes ≡ y.writes)) ⊎
    (s.clock < y.wv)

pub pending_stamped : (s : World) (x : Actor) (p : Place) → PlaceOk s x p → IsPending p → Stamped s.clock x.rv x.wv x.writes x.held
pending_stamped s x (Check ls) g h = g.0
pending_stamped s x First g h = g.0
pending_stamped s x p g h = absurd h

pub stamp_of : (s : World) (b : ℕ) → Inv s → IsPending (s.actors b).place
    → Stamped s.clock (s.actors b).rv (s.actors b).wv (s.actors b).writes (s.actors b).held
stamp_of s b v h = pending_stamped s (s.actors b) (s.actors b).place (v.actors b).place h

-- a step that commits nothing keeps what is good
pub Keeps-no_commit : (s : World) (a : ℕ) (y : Actor) (c : ℕ) (locks : ℕ → LockWord) (values : Memory) (aborted : List Ended)
    → s.clock ≤ c → IsNumbered s a y → ((l : ℕ) → version_of (s.locks l) ≤ version_of (locks l))
    → Keeps s (next s a y c locks values s.history aborted)
Keeps-no_commit s a y c locks values aborted le num ver = record {
  clock = le;
  versions = ver;
  latest = λ l k b q. (q, refl);
  good = λ n l v g. record {
    past = omega (arith, le, g.past);
    value = g.value;
    fixed = λ b. put_both (λ (z : Actor). IsPending z.place → z.wv ≤ n → lookup z.writes l ≡ None) s.actors a y b
        (λ _ p w. elim (num p) [
          | inl old ↦ ap (λ (z : Entries). lookup z l) (sym old.2) ∙ g.fixed a old.0 (omega (arith, old.1, w))
          | inr new ↦ absurd (omega (arith, new, w, g.past))
        ])
        (λ _. g.fixed b);
  };
}

pub actors_after : (s t : World) (a : ℕ) (y : Actor) → Inv s → Keeps s t → ((b : ℕ) → (b ≡ a → ⊥) → Same s t (s.actors b).held)
    → ActorOk t y → (b : ℕ) → ActorOk t (put s.actors a y b)
actors_after s t a y v k others own b = put_both (ActorOk t) s.actors a y b (λ _. own)
    (λ ne. ActorOk-kept s t (s.actors b) k (others b ne) (v.actors b))

pub apart_after : (s : World) (a : ℕ) (y : Actor) → Inv s
    → ((l k : ℕ) → lookup y.held l ≡ Some k → (lookup (s.actors a).held l ≡ Some k) ⊎ ((b j : ℕ) → lookup (s.actors b).held l ≡ Some j → ⊥))
    → (b c l j k : ℕ) → lookup (put s.actors a y b).held l ≡ Some j → lookup (put s.actors a y c).held l ≡ Some k → b ≡ c
apart_after s a y v own b c l j k =
    put_both (λ (z : Actor). lookup z.held l ≡ Some j → lookup (put s.actors a y c).held l ≡ Some k → b ≡ c) s.actors a y b
    (λ eb hb. put_both (λ (z : Actor). lookup z.held l ≡ Some k → b ≡ c) s.actors a y c
    (λ ec _. eb ∙ sym ec)
    (λ _ hc. elim (own l j hb) [ inl old ↦ eb ∙ v.apart a c l j k old hc | inr new ↦ absurd (new c k hc) ]))
    (λ _ hb. put_both (λ (z : Actor). lookup z.held l ≡ Some k → b ≡ c) s.actors a y c
    (λ ec hc. elim (own l k hc) [ inl old ↦ v.apart b a l j k hb old ∙ sym ec | inr new ↦ absurd (new b j hb) ])
    (λ _ hc. v.apart b c l j k hb hc))

pub numbers_after : (s : World) (a : ℕ) (y : Actor) → Inv s → IsNumbered s a y
    → (b c : ℕ) → IsPending (put s.actors a y b).place → IsPending (put s.actors a y c).place → (put s.actors a y b).wv
    ≡ (put s.actors a y c).wv → b ≡ c
numbers_after s a y v num b c =
    put_both (λ (z : Actor). IsPending z.place → IsPending (put s.actors a y c).place → z.wv ≡ (put s.actors a y c).wv → b
    ≡ c) s.actors a y b
    (λ eb pb. put_both (λ (z : Actor). IsPending z.place → y.wv ≡ z.wv → b ≡ c) s.actors a y c
    (λ ec _ _. eb ∙ sym ec)
    (λ _ pc e. elim (num pb) [
      | inl old ↦ eb ∙ v.numbers a c old.0 pc (old.1 ∙ e)
      | inr new ↦ absurd (omega (arith, new, e, (stamp_of s c v pc).made))
    ]))
    (λ _ pb. put_both (λ (z : Actor). IsPending z.place → (s.actors b).wv ≡ z.wv → b ≡ c) s.actors a y c
    (λ ec pc e. elim (num pc) [
      | inl old ↦ v.numbers b a pb old.0 (e ∙ sym old.1) ∙ sym ec
      | inr new ↦ absurd (omega (arith, new, e, (stamp_of s b v pb).made))
    ])
    (λ _ pc e. v.numbers b c pb pc e))

pub unused_after : (s : World) (a : ℕ) (y : Actor) → Inv s → IsNumbered s a y
    → (b : ℕ) → IsPending (put s.actors a y b).place
    → AllRecords (λ r. (r.writer ≡ true → (put s.actors a y b).wv ≡ r.number → ⊥)) s.history
unused_after s a y v num b =
    put_both (λ (z : Actor). IsPending z.place → AllRecords (λ r. (r.writer ≡ true → z.wv ≡ r.number → ⊥)) s.history) s.actors a y b
    (λ _ p. elim (num p) [
      | inl old ↦ AllRecords_map (λ r. (r.writer ≡ true → (s.actors a).wv ≡ r.number → ⊥))
          (λ r. (r.writer ≡ true → y.wv ≡ r.number → ⊥)) s.history
          (λ r f w e. f w (old.1 ∙ e)) (v.unused a old.0)
      | inr new ↦ AllRecords_map (RecordOk s) (λ r. (r.writer ≡ true → y.wv ≡ r.number → ⊥)) s.history
          (λ r f w e. absurd (omega (arith, f.past, new, e))) v.records
    ])
    (λ _ p. v.unused b p)

-- who is half done and holds l holds it still
abbrev pub StillHolds : Actor → Actor → ℕ → Type 0
StillHolds x y l = IsHalfDone x.place → (IsHalfDone y.place → lookup y.held l ≡ None) → lookup x.held l ≡ None

pub behind_before : (s : World) (a : ℕ) (y : Actor) (l : ℕ) → StillHolds (s.actors a) y l
    → ((b : ℕ) → IsHalfDone (put s.actors a y b).place → lookup (put s.actors a y b).held l ≡ None)
    → (b : ℕ) → IsHalfDone (s.actors b).place → lookup (s.actors b).held l ≡ None
behind_before s a y l still none b half =
    elim (cases_eq b a) [
      | inl e ↦ ap (λ (z : ℕ). lookup (s.actors z).held l) e
          ∙ still (subst (λ (z : ℕ). IsHalfDone (s.actors z).place) e half)
          (let P : Actor → Type 0 = λ z. (IsHalfDone z.place → lookup z.held l ≡ None) in subst P (put-same s.actors a y) (none a))
      | inr ne ↦ (let P : Actor → Type 0 = λ z. (IsHalfDone z.place → lookup z.held l ≡ None) in subst P (put-other s.actors a y b ne)
          (none b)) half
    ]

-- What a step of actor a leads to.
pub record Moved (s : World) (a : ℕ) (t : World) : Type 0 where
  pub inv : Inv t
  pub keeps : Keeps s t
  pub opening : t.opening ≡ s.opening
  pub others : (b : ℕ) → (b ≡ a → ⊥) → Same s t (s.actors b).held

pub moved_none : (s : World) (a : ℕ) → Inv s → Moved s a s
moved_none s a v = record {
  inv = v;
  keeps = record { clock = omega arith; good = λ n l u g. g; versions = λ l. omega arith; latest = λ l k b h. (h, refl) };
  opening = refl;
  others = λ b ne. record { locks = λ l k h. refl; values = λ l k h. refl; stamps = λ l k h. refl; latest = λ l k h. refl };
}

-- What an actor may be after a step that changes no word.
pub record QuietOk (s : World) (a : ℕ) (y : Actor) : Type 0 where
  pub numbered : IsNumbered s a y
  pub still : (l : ℕ) → StillHolds (s.actors a) y l
  pub held : y.held ≡ (s.actors a).held
  pub ok : ActorOk s y

-- a step that changes one actor and no word; it may end a transaction
pub quiet_ended : (s : World) (a : ℕ) (y : Actor) (ended : List Ended) → Inv s → QuietOk s a y → AllEnded (λ e. Saw s e.rv e.calls) ended
    → Moved s a (next s a y s.clock s.locks s.values s.history ended)
quiet_ended s a y ended v q saw =
    let t = next s a y s.clock s.locks s.values s.history ended in
    let k : Keeps s (next s a y s.clock s.locks s.values s.history ended) = Keeps-no_commit s a y s.clock s.locks s.values ended
    (omega arith) q.numbered (λ l. omega arith) in
    let m : (h : Entries) → Same s (next s a y s.clock s.locks s.values s.history ended) h =
    λ h. record { locks = λ l j q. refl; values = λ l j q. refl; stamps = λ l j q. refl; latest = λ l j q. refl } in
    record {
      inv = record {
        actors = actors_after s t a y v k (λ b ne. m (s.actors b).held) (ActorOk-kept s t y k (m y.held) q.ok);
        apart = apart_after s a y v (λ l j h. inl (ap (λ (z : Entries). lookup z l) (sym q.held) ∙ h));
        numbers = numbers_after s a y v q.numbered;
        unused = unused_after s a y v q.numbered;
        versions = v.versions;
        current = v.current;
        behind = λ l h. v.behind l (behind_before s a y l (q.still l) h);
        ordered = v.ordered;
        records = records_kept s t s.history k v.records;
        aborted = aborted_kept s t ended k saw;
      };
      keeps = k;
      opening = refl;
      others = λ b ne. m (s.actors b).held;
    }

pub quiet : (s : World) (a : ℕ) (y : Actor) → Inv s → QuietOk s a y → Moved s a (now s a y)
quiet s a y v q = quiet_ended s a y s.aborted v q v.aborted
