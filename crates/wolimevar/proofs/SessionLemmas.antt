-- Sessions that were served, in order.
use Rattle.std.proofs.Common.{◌≡◌, ℕ, zero, suc, ◌+◌, ◌<◌, List, [], ◌∷◌, ◌++◌, length, Option, Some, refl, sym, ap, ◌∙◌, subst, arith}
use Rattle.std.specs.Prelude.{All, IfSome, drop, map, slice_index_or, take}
use Rattle.std.specs.List.{AllZip}
use Rattle.std.proofs.lemmas.List.{append_assoc, map-append}
use Rattle.std.proofs.lemmas.List.Elements.{All-append, All-cons, All-head, All-nil, All-tail, All-weaker}
use Rattle.seq_model.specs.declared.record.Record.{Record}
use Rattle.shared_table.specs.declared.table.TxTable.{TxTable}
use Rattle.shared_table.specs.Seated.{actor, view}
use Rattle.tx_engine.specs.declared.seats.TxSeat.{TxSeat}
use Rattle.wolimevar.specs.declared.sessions.Task.{Task}
use Rattle.wolimevar.specs.Sessions.{AreServed, HaveServed, IsDone, IsDue, IsFinished, IsOfOne, IsServed, IsWaiting, Serves, joined}
use Rattle.wolimevar.specs.Splits.{IsUnused}
use Rattle.shared_table.specs.declared.seat.Seat.{Seat}
use Rattle.tx_client.specs.Frames.{AreBy, Frame, HasGrown, earlier, later, receipts_at}
use Rattle.tx_client.proofs.FrameLemmas.{own_is}

-- what holds at each task holds item by item
pub zip_of : {A : Type 0} (R : A → A → Type 0) (xs ys : List A) → length ys ≡ length xs
    → ((i : ℕ) (d : A) → i < length xs → R (slice_index_or xs i d) (slice_index_or ys i d)) → AllZip R xs ys
zip_of R [] [] e h = tt
zip_of R [] (y ∷ ys) e h = absurd (omega (arith, e))
zip_of R (x ∷ xs) [] e h = absurd (omega (arith, e))
zip_of R (x ∷ xs) (y ∷ ys) e h =
    (h 0 x (omega arith), zip_of R xs ys (omega (arith, e)) (λ i d l. h (suc i) d (omega (arith, l))))

pub zip_second : {A : Type 0} (R : A → A → Type 0) (P : A → Type 0) (xs ys : List A) → ((x y : A) → R x y → P y) → AllZip R xs ys
    → All P ys
zip_second R P [] [] f h = All-nil P
zip_second R P [] (y ∷ ys) f h = absurd h
zip_second R P (x ∷ xs) [] f h = absurd h
zip_second R P (x ∷ xs) (y ∷ ys) f h = All-cons P y ys (f x y h.0) (zip_second R P xs ys f h.1)

same_head : {A : Type 0} (x y : A) (xs ys : List A) → x ∷ xs ≡ y ∷ ys → x ≡ y
same_head x y xs ys e = cc

same_tail : {A : Type 0} (x y : A) (xs ys : List A) → x ∷ xs ≡ y ∷ ys → xs ≡ ys
same_tail x y xs ys e = cc

no_item : {A : Type 0} (y : A) (ys : List A) → [] ≡ y ∷ ys → ⊥
no_item y ys e = cc

some_item : {A : Type 0} (y : A) (ys : List A) → y ∷ ys ≡ [] → ⊥
some_item y ys e = cc

some_same : {A : Type 0} (o : Option A) (a b : A) → o ≡ Some a → o ≡ Some b → a ≡ b
some_same o a b p q = subst (λ x. IfSome x (λ y. a ≡ y)) (sym p ∙ q) refl

map_length : {A B : Type 0} (f : A → B) (xs : List A) → length (map f xs) ≡ length xs
map_length f [] = refl
map_length f (x ∷ xs) = ap suc (map_length f xs)

-- lists whose images are the same are as long
pub as_long : {A B C : Type 0} (f : A → C) (g : B → C) (xs : List A) (ys : List B) → map f xs ≡ map g ys → length xs ≡ length ys
as_long f g xs ys e = sym (map_length f xs) ∙ ap (λ zs. length zs) e ∙ map_length g ys

take_front : {A : Type 0} (xs ys : List A) (n : ℕ) → n ≡ length xs → take n (xs ++ ys) ≡ xs
take_front [] ys zero e = refl
take_front [] ys (suc n) e = absurd (omega (arith, e))
take_front (x ∷ xs) ys zero e = absurd (omega (arith, e))
take_front (x ∷ xs) ys (suc n) e = ap (λ zs. x ∷ zs) (take_front xs ys n (omega (arith, e)))

-- what a slice of a whole list leaves of it
pub whole_slice : {A : Type 0} (xs ys : List A) (n : ℕ) → n ≡ length ys → length xs ≡ length ys → take n (xs ++ drop (length xs) ys) ≡ xs
whole_slice xs ys n e f = take_front xs (drop (length xs) ys) n (e ∙ sym f)

module _ {V : Type 0} where
  -- the seat of a session that waits
  pub waiting_seat : {N O : Type 0} (t : TxTable V) (p : Task V N O) (s : TxSeat V) → IsWaiting t p → p.seat ≡ Some s → IsUnused t s
  waiting_seat t p s h is = subst (IsUnused t) (own_is p.seat h.own s h.seat is) h.unused

module _ {V N O : Type 0} (t : TxTable V) where
  -- the seats that are left to be joined, without the first
  pub joined_first : (before after old : List (ℕ × Record V)) (p : Task V N O) (rest items all : List (Task V N O))
      → after ≡ before ++ receipts_at p.seat → items ≡ p ∷ rest
      → before ++ joined (map (λ q. receipts_at q.seat) items) ≡ old ++ joined (map (λ q. receipts_at q.seat) all)
      → after ++ joined (map (λ q. receipts_at q.seat) rest) ≡ old ++ joined (map (λ q. receipts_at q.seat) all)
  joined_first before after old p rest items all e is h =
      let left : List (ℕ × Record V) = joined (map (λ (q : Task V N O). receipts_at q.seat) rest) in
      ap (λ (rs : List (ℕ × Record V)). rs ++ left) e
      ∙ append_assoc before (receipts_at p.seat) left
      ∙ ap (λ (ps : List (Task V N O)). before ++ joined (map (λ (q : Task V N O). receipts_at q.seat) ps)) (sym is)
      ∙ h

  pub joined_behind : (old before after : List (ℕ × Record V)) (ps : List (Task V N O))
      → after ≡ before ++ joined (map (λ q. receipts_at q.seat) ps) → before ≡ old
      → after ≡ old ++ joined (map (λ q. receipts_at q.seat) ps)
  joined_behind old before after ps e is =
      e ∙ ap (λ (rs : List (ℕ × Record V)). rs ++ joined (map (λ (q : Task V N O). receipts_at q.seat) ps)) is

  waits_more : (items : List (Task V N O)) (p : Task V N O) → IsWaiting t p → All (IsWaiting t) items → All (IsWaiting t) (items ++ p ∷ [])
  waits_more items p w h = All-append (IsWaiting t) items (p ∷ []) h (All-cons (IsWaiting t) p [] w (All-nil (IsWaiting t)))

  -- what the first of them gave
  pub given_first : (outs now : List O) (o : O) (p : Task V N O) (rest : List (Task V N O)) (all : List (Option O)) → now ≡ outs ++ o ∷ []
      → p.out ≡ Some o → map Some outs ++ map (λ q. q.out) (p ∷ rest) ≡ all → map Some now ++ map (λ q. q.out) rest ≡ all
  given_first outs now o p rest all is e h =
      let ends : List (Option O) = map (λ (q : Task V N O). q.out) rest in
      ap (λ (l : List O). map Some l ++ ends) is
      ∙ ap (λ (l : List (Option O)). l ++ ends) (map-append Some outs (o ∷ []))
      ∙ append_assoc (map Some outs) (Some o ∷ []) ends
      ∙ ap (λ (x : Option O). map Some outs ++ x ∷ ends) (sym e)
      ∙ h

  -- one more waits
  pub prepared_more : (items now : List (Task V N O)) (ys : List N) (p : Task V N O) (y : N) → now ≡ items ++ p ∷ [] → IsWaiting t p
      → p.session ≡ Some y → All (IsWaiting t) items → map (λ q. q.session) items ≡ map Some ys
      → All (IsWaiting t) now × (map (λ q. q.session) now ≡ map Some (ys ++ y ∷ []))
  prepared_more items now ys p y is w e h k = (
    subst (All (IsWaiting t)) (sym is) (waits_more items p w h),
    ap (λ (qs : List (Task V N O)). map (λ q. q.session) qs) is
        ∙ map-append (λ (q : Task V N O). q.session) items (p ∷ [])
        ∙ (λ i. k i ++ e i ∷ [])
        ∙ sym (map-append Some ys (y ∷ [])),
  )

no_rest : {A : Type 0} (R : A → A → Type 0) (xs : List A) (x : A) → AllZip R [] (xs ++ x ∷ []) → ⊥
no_rest R [] x h = h
no_rest R (y ∷ xs) x h = h

rest_none : {A : Type 0} (R : A → A → Type 0) (xs : List A) (x : A) → AllZip R (xs ++ x ∷ []) [] → ⊥
rest_none R [] x h = h
rest_none R (y ∷ xs) x h = h

-- a list whose first item was taken out
pub first_taken : {A : Type 0} (xs ys : List A) (x : A) → 0 < length xs → x ≡ slice_index_or xs 0 x → ys ≡ take 0 xs ++ drop (0 + 1) xs
    → xs ≡ x ∷ ys
first_taken [] ys x some is e = absurd (omega (arith, some))
first_taken (z ∷ xs) ys x some is e = (λ i. sym is i ∷ sym e i)

module _ {V N O : Type 0} (t : TxTable V) where
  -- a session that waits is to be served
  pub waiting_due : (p : Task V N O) → IsWaiting t p → IsDue t p
  waiting_due p w = record { own = w.own; seat = w.seat; ready = w.unused.ready; waiting = w.waiting; session = w.session }

  pub all_due : (ps : List (Task V N O)) → All (IsWaiting t) ps → All (IsDue t) ps
  all_due ps h = All-weaker (IsWaiting t) (IsDue t) waiting_due ps h

module _ {V N O : Type 0} (serves : N → O → List (ℕ × Record V) → Type 0) where
  -- what a session's client has, its seat has gained
  pub served_at : (f : Option (Frame V)) (t : TxTable V) (m s : TxSeat V) (n : N) (o : O) (rs : List (ℕ × Record V))
      → f ≡ Some (record { table = t; begun = Some m }) → HasGrown f s.seat → rs ≡ later f (view s.seat).receipts → serves n o rs
      → Serves serves n o m.seat s.seat
  served_at f t m s n o rs is grown same served = record {
    made = later f (view s.seat).receipts;
    gains = grown.gains ∙ ap (λ (g : Option (Frame V)). earlier g ++ later f (view s.seat).receipts) is;
    served = subst (serves n o) same served;
    own = grown.own;
  }

  -- where its seat had no receipts, it has those of the session alone
  pub all_made : (n : N) (o : O) (m s : Seat V) (h : Serves serves n o m s) → (view m).receipts ≡ [] → (view s).receipts ≡ h.made
  all_made n o m s h none = h.gains ∙ ap (λ rs. rs ++ h.made) none

  pub alone_served : (n : N) (o : O) (m s : Seat V) → Serves serves n o m s → (view m).receipts ≡ [] → serves n o (view s).receipts
  alone_served n o m s h none = subst (serves n o) (sym (all_made n o m s h none)) h.served

  pub alone_own : (n : N) (o : O) (m s : Seat V) → Serves serves n o m s → (view m).receipts ≡ [] → AreBy (actor s) (view s).receipts
  alone_own n o m s h none = subst (AreBy (actor s)) (sym (all_made n o m s h none)) h.own

module _ {V N O : Type 0} (t : TxTable V) (serves : N → O → List (ℕ × Record V) → Type 0) where
  pub served_alone : (p q : Task V N O) → IsWaiting t p → IsDone t serves p q → IsServed t serves p q
  served_alone p q w d =
      let same : d.due.own ≡ w.own = own_is p.seat d.due.own w.own d.due.seat w.seat in
      let none : (view d.due.own.seat).receipts ≡ [] = ap (λ (x : TxSeat V). (view x.seat).receipts) same ∙ w.unused.none in
      record {
        finished = record {
          own = d.ended.own;
          seat = d.ended.seat;
          ready = d.ended.ready;
          share = d.goes.shares ∙ ap (λ (x : TxSeat V). (view x.seat).shares) same ∙ w.unused.share;
          given = d.ended.given;
          out = d.ended.out;
        };
        session = d.due.waiting;
        waited = d.due.session;
        served = alone_served serves d.due.waiting d.ended.given d.due.own.seat d.ended.own.seat d.served none;
        own = alone_own serves d.due.waiting d.ended.given d.due.own.seat d.ended.own.seat d.served none;
      }

  pub zip_alone : (ps qs : List (Task V N O)) → All (IsWaiting t) ps → AllZip (IsDone t serves) ps qs → AllZip (IsServed t serves) ps qs
  zip_alone [] [] w h = tt
  zip_alone [] (q ∷ qs) w h = absurd h
  zip_alone (p ∷ ps) [] w h = absurd h
  zip_alone (p ∷ ps) (q ∷ qs) w h =
      (served_alone p q (All-head (IsWaiting t) p ps w) h.0, zip_alone ps qs (All-tail (IsWaiting t) p ps w) h.1)

  -- the last of those that were served, and the others
  pub zip_last : (ps qs : List (Task V N O)) (p q : Task V N O) → AllZip (IsDone t serves) (ps ++ p ∷ []) (qs ++ q ∷ [])
      → AllZip (IsDone t serves) ps qs × IsDone t serves p q
  zip_last [] [] p q h = (tt, h.0)
  zip_last [] (x ∷ qs) p q h = absurd (no_rest (IsDone t serves) qs q h.1)
  zip_last (x ∷ ps) [] p q h = absurd (rest_none (IsDone t serves) ps p h.1)
  zip_last (x ∷ ps) (y ∷ qs) p q h =
      let k = zip_last ps qs p q h.1 in
      ((h.0, k.0), k.1)

  -- what comes of sessions of which the last one is taken out again
  pub served_apart : (ps pushed given now qs : List (Task V N O)) (p q : Task V N O) (n : ℕ) → pushed ≡ ps ++ p ∷ [] → given ≡ pushed
      → n ≡ length pushed → length now ≡ length pushed
      → ((i : ℕ) (d : Task V N O) → i < length given → IsDone t serves (slice_index_or given i d) (slice_index_or now i d))
      → take n (now ++ drop (length now) pushed) ≡ qs ++ q ∷ [] → AllZip (IsDone t serves) ps qs × IsDone t serves p q
  served_apart ps pushed given now qs p q n is same len long done e =
      let Done = IsDone t serves in
      zip_last ps qs p q
      (subst (λ (xs : List (Task V N O)). AllZip Done xs (qs ++ q ∷ [])) is
      (subst (AllZip Done pushed) (sym (whole_slice now pushed n len long) ∙ e)
      (subst (λ (xs : List (Task V N O)). AllZip Done xs now) same (zip_of Done given now (long ∙ ap (λ xs. length xs) (sym same)) done))))

  pub finished : (p q : Task V N O) → IsServed t serves p q → IsFinished t q
  finished p q h = h.finished

  pub one_served : (p q : Task V N O) (n : N) (o : O) → IsServed t serves p q → p.session ≡ Some n → q.out ≡ Some o
      → serves n o (receipts_at q.seat)
  one_served p q n o h is given =
      let at : serves n o (view h.finished.own.seat).receipts =
      subst (λ x. serves x o (view h.finished.own.seat).receipts) (some_same p.session h.session n h.waited is)
      (subst (λ y. serves h.session y (view h.finished.own.seat).receipts) (some_same q.out h.finished.given o h.finished.out given)
      h.served) in
      subst (λ (s : Option (TxSeat V)). serves n o (receipts_at s)) (sym h.finished.seat) at

  pub all_served : (ps qs : List (Task V N O)) (ns : List N) (os : List O) → AllZip (IsServed t serves) ps qs
      → map (λ p. p.session) ps ≡ map Some ns → map (λ q. q.out) qs ≡ map Some os
      → AreServed serves ns os (map (λ q. receipts_at q.seat) qs)
  all_served [] [] [] [] h is given = tt
  all_served [] (q ∷ qs) ns os h is given = absurd h
  all_served (p ∷ ps) [] ns os h is given = absurd h
  all_served [] [] (n ∷ ns) os h is given = absurd (no_item _ _ is)
  all_served [] [] [] (o ∷ os) h is given = absurd (no_item _ _ given)
  all_served (p ∷ ps) (q ∷ qs) [] os h is given = absurd (some_item _ _ is)
  all_served (p ∷ ps) (q ∷ qs) (n ∷ ns) [] h is given = absurd (some_item _ _ given)
  all_served (p ∷ ps) (q ∷ qs) (n ∷ ns) (o ∷ os) h is given = (
    one_served p q n o h.0 (same_head _ _ _ _ is) (same_head _ _ _ _ given),
    all_served ps qs ns os h.1 (same_tail _ _ _ _ is) (same_tail _ _ _ _ given),
  )

  one_own : (p q : Task V N O) → IsServed t serves p q → IsOfOne (receipts_at q.seat)
  one_own p q h = (
    actor h.finished.own.seat,
    subst (λ (s : Option (TxSeat V)). AreBy (actor h.finished.own.seat) (receipts_at s)) (sym h.finished.seat) h.own,
  )

  -- the receipts of each are of one actor
  pub all_own : (ps qs : List (Task V N O)) → AllZip (IsServed t serves) ps qs → All IsOfOne (map (λ q. receipts_at q.seat) qs)
  all_own [] [] h = All-nil IsOfOne
  all_own [] (q ∷ qs) h = absurd h
  all_own (p ∷ ps) [] h = absurd h
  all_own (p ∷ ps) (q ∷ qs) h =
      All-cons IsOfOne (receipts_at q.seat) (map (λ (x : Task V N O). receipts_at x.seat) qs) (one_own p q h.0) (all_own ps qs h.1)

  -- once all are served
  pub finished_all : (ps qs : List (Task V N O)) → AllZip (IsServed t serves) ps qs → All (IsFinished t) qs
  finished_all ps qs h = zip_second (IsServed t serves) (IsFinished t) ps qs finished h

  -- The first session was served at a seat that had receipts already, and the others at seats that had none; all have returned these things.
  pub all_have_served : (n : N) (ns : List N) (p q : Task V N O) (ps qs : List (Task V N O)) (os : List O)
      (before after : List (ℕ × Record V)) (d : IsDone t serves p q) → p.session ≡ Some n → (view d.due.own.seat).receipts ≡ before
      → AllZip (IsServed t serves) ps qs → map (λ x. x.session) ps ≡ map Some ns → map Some os ≡ q.out ∷ map (λ x. x.out) qs
      → after ≡ (view d.ended.own.seat).receipts ++ joined (map (λ x. receipts_at x.seat) qs) → HaveServed serves (n ∷ ns) os before after
  all_have_served n ns p q ps qs [] before after d is had zip sessions outs e = absurd (no_item _ _ outs)
  all_have_served n ns p q ps qs (o ∷ os) before after d is had zip sessions outs e =
      let made = d.served.made in
      let rest : List (ℕ × Record V) = joined (map (λ (x : Task V N O). receipts_at x.seat) qs) in
      let first : serves n o made =
      subst (λ x. serves x o made) (some_same p.session d.due.waiting n d.due.session is)
      (subst (λ y. serves d.due.waiting y made) (some_same q.out d.ended.given o d.ended.out (sym (same_head _ _ _ _ outs))) d.served.served) in
      record {
        lists = made ∷ map (λ (x : Task V N O). receipts_at x.seat) qs;
        each = (first, all_served ps qs ns os zip sessions (sym (same_tail _ _ _ _ outs)));
        own = All-cons IsOfOne made (map (λ (x : Task V N O). receipts_at x.seat) qs) (actor d.ended.own.seat, d.served.own)
            (all_own ps qs zip);
        gains = e ∙ ap (λ (rs : List (ℕ × Record V)). rs ++ rest) (d.served.gains ∙ ap (λ (rs : List (ℕ × Record V)). rs ++ made) had)
            ∙ append_assoc before made rest;
      }
