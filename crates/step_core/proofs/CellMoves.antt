-- A step of the cells is the machine's. The world that has these cells and this actor is given: what the step finds there is what the cells
-- hold, so the machine's actor becomes the code's, its word becomes the one that was stored, and it answers what the code answers. A load
-- leaves the cells; a store puts one number in the place of another.
use Rattle.std.proofs.Common.{◌≡◌, ℕ, zero, suc, ◌+◌, ◌<◌, ◌≤◌, ◌^◌, ◌*◌, List, [], ◌∷◌, Ok, Err, Option, Some, None, length, get_or, set}
use Rattle.std.proofs.Common.{refl, sym, ap, ◌∙◌, subst, inl, inr, arith, drop, eqb, eq-eqb, ne_eqb, get_or-set_same, get_or-set_other}
use Rattle.std.specs.Prelude.{unwrap_or}
use Rattle.std.specs.Vec.{with_item}
use Rattle.std.specs.List.{All}
use Rattle.std.proofs.lemmas.Bool.{cases_eq, cond-true, cond-false}
use Rattle.vlock_word.specs.declared.lock_word.LockWord.{LockWord}
use Rattle.vlock_word.specs.declared.lock_word.LockWord.TheVariants.{Free, Locked}
use Rattle.vlock_word.specs.LockWord.{bits, unbits}
use Rattle.vlock_word.proofs.LockWordLemmas.{bits_unbits, unbits_free, unbits_locked}
use Rattle.tx_sets.specs.Entries.{Entries, locations, lookup}
use Rattle.tx_machine.specs.Actor as machine
use Rattle.tx_machine.specs.Actor.{goes, begun, seen, seen_again, seen_to_lock, to_check, stamped_at, taken, seen_in_check, freed}
use Rattle.tx_machine.specs.Actor.{after_release}
use Rattle.tx_machine.specs.World.{World, Step, happens, step, put, now}
use Rattle.tx_machine.specs.Notices.{LockedAt, Quiet, Busy, NoTransaction, Stored, Released, Cancelled, last_notice, take_notice}
use Rattle.tx_machine.specs.Notices.{when_none_left, notice, begin_notice, look_notice, again_notice, lock_notice, check_notice}
use Rattle.tx_machine.proofs.Sets.{put-same, put-other}
use Rattle.tx_machine.proofs.Worlds.{tried, locked, looked, looked_again, to_lock, checked, gives_back, released, undone, first}
use Rattle.step_core.specs.Answers.{result_of}
use Rattle.step_core.specs.CellSteps.{AreCells, StepsOn}
use Rattle.step_core.specs.Shown.{actor_of, place_of}
use Rattle.step_core.specs.declared.actor.Actor.{Actor}
use Rattle.step_core.specs.declared.actor.Place.{Place}
use Rattle.step_core.specs.declared.actor.Place.TheVariants.{Begin, Look, Fetch, Again, Lock, Take, Check, First, Store, Release, Undo}
use Rattle.step_core.specs.declared.actor.Place.TheVariants.{Leave, Close}
use Rattle.step_core.specs.declared.answer.WordAnswer.TheVariants as answer
use Rattle.step_core.specs.declared.answer.WordRefusal.TheVariants as refusal
use Rattle.step_core.specs.declared.cells.Cells.{Cells}
use Rattle.tx_sets.specs.Entries.{IsRising}
use Rattle.tx_sets.proofs.EntryLemmas.{lookup-head, lookup-tail}
use Rattle.step_core.specs.Sound.{Fits, FitsPlace}
use Rattle.step_core.proofs.Lists.{Answer, drop_here, drop_end, get_or_same, head_tail}

lost : (s : World) (a : ℕ) (x : machine.Actor) (l k : ℕ) (ls : List ℕ) (w : LockWord) → (bits w ≡ 2 * k → ⊥)
    → (tried s a x l k ls w ≡ now s a (goes x machine.Broken)) × (take_notice l k w ≡ Busy l (bits w))
lost s a x l k ls (Free j) ne = (
  cond-false (eqb j k) (locked s a x l k ls) (now s a (goes x machine.Broken)) (ne_eqb j k (λ q. ne (ap (λ (n : ℕ). 2 * n) q))),
  cond-false (eqb j k) Quiet (Busy l (2 * j)) (ne_eqb j k (λ q. ne (ap (λ (n : ℕ). 2 * n) q))),
)
lost s a x l k ls (Locked j) ne = (refl, refl)

released_is : (s : World) (a : ℕ) (x : machine.Actor) (e : ℕ × ℕ) (es : Entries) → released s a x (e ∷ es) ≡ gives_back s a x e.0
    (Free x.wv) es (after_release es)
released_is s a x e [] = refl
released_is s a x e (f ∷ es) = refl

-- the first of the locks that are held
pub held_below : (n : ℕ) (es : Entries) (e : ℕ × ℕ) → All (λ d. (d.0 < n) × (d.1 < 2 ^ 63)) es → 0 < length es → e ≡ get_or es 0 e → e.0 < n
held_below n es e below some is = subst (λ (u : ℕ × ℕ). u.0 < n) (sym is) (below 0 e some).0

-- what is found at a location
pub found : (xs : List ℕ) (i v : ℕ) → i < length xs → v ≡ get_or xs i v → get_or xs i 0 ≡ v
found xs i v inn is = get_or_same xs i 0 v inn ∙ sym is

pub place_fits : (x : Actor) (n : ℕ) (p : Place) → x.place ≡ p → Fits n x → FitsPlace n x p
place_fits x n p at_p f = subst (FitsPlace n x) at_p f.place

-- an entry of a set: its location, that it is within the bound, and its value
pub location_is : (es : Entries) (i : ℕ) (e : ℕ × ℕ) → i < length es → e ≡ get_or es i e → (get_or es i (0, 0)).0 ≡ e.0
location_is es i e inn is = ap (λ (u : ℕ × ℕ). u.0) (get_or_same es i (0, 0) e inn ∙ sym is)

pub location_below : (n : ℕ) (es : Entries) (i : ℕ) (e : ℕ × ℕ) → All (λ d. d.0 < n) es → i < length es → e ≡ get_or es i e → e.0 < n
location_below n es i e below inn is = subst (λ (u : ℕ × ℕ). u.0 < n) (sym is) (below i e inn)

lookup_at : (es : Entries) (i : ℕ) (d : ℕ × ℕ) → IsRising es → i < length es → lookup es (get_or es i d).0 ≡ Some (get_or es i d).1
lookup_at [] i d rise h = absurd (omega (arith, h))
lookup_at (e ∷ es) zero d rise h = lookup-head e es
lookup_at (e ∷ es) (suc i) d rise h =
    let inn : i < length es = omega (arith, h) in
    let above = rise.0 i d inn in
    lookup-tail e es (get_or es i d).0 (λ q. omega (arith, above, q)) ∙ lookup_at es i d rise.1 inn

pub value_is : (es : Entries) (i : ℕ) (e : ℕ × ℕ) → IsRising es → i < length es → e ≡ get_or es i e → e.1 ≡ unwrap_or (lookup es e.0) 0
value_is es i e rise inn is = sym (ap (λ (o : Option ℕ). unwrap_or o 0) (subst (λ (u : ℕ × ℕ). lookup es u.0 ≡ Some u.1) (sym is)
    (lookup_at es i e rise inn)))

pub entry_first : (es : Entries) (e : ℕ × ℕ) → 0 < length es → e ≡ get_or es 0 e → es ≡ e ∷ drop 1 es
entry_first es e some is = head_tail es e some ∙ ap (λ (u : ℕ × ℕ). u ∷ drop 1 es) (sym is)

-- what the machine does at the place of x, in a world that has the cells w and the actor x as a
abbrev Does : Cells → Actor → Cells → Actor → Place → Answer → Type 0
Does w x t y p r =
    (s : World) (a : ℕ) → AreCells w s
    → AreCells t (step s a (actor_of x) (place_of x.reads.entries x.writes.entries p))
    × ((step s a (actor_of x) (place_of x.reads.entries x.writes.entries p)).actors a ≡ actor_of y)
    × (r ≡ result_of (notice s (actor_of x) (place_of x.reads.entries x.writes.entries p)))

at_place : (w t : Cells) (x y : Actor) (p : Place) (r : Answer) → x.place ≡ p → Does w x t y p r → StepsOn w x t y r
at_place w t x y p r at_p does s a h e =
    let turn : happens s (Step a) ≡ step s a (actor_of x) (place_of x.reads.entries x.writes.entries p) =
    ap (λ (z : machine.Actor). step s a z z.place) e ∙ ap (λ (z : Place). step s a (actor_of x)
    (place_of x.reads.entries x.writes.entries z)) at_p in
    let told : notice s (s.actors a) (s.actors a).place ≡ notice s (actor_of x) (place_of x.reads.entries x.writes.entries p) =
    ap (λ (z : machine.Actor). notice s z z.place) e ∙ ap (λ (z : Place). notice s (actor_of x)
    (place_of x.reads.entries x.writes.entries z)) at_p in
    let d = does s a h in (
      subst (AreCells t) (sym turn) d.0,
      ap (λ (u : World). u.actors a) turn ∙ d.1,
      d.2 ∙ ap result_of (sym told),
    )

-- a load changes its actor's record alone
loads : (w : Cells) (x y : Actor) (p : Place) (r : Answer) → x.place ≡ p
    → ((s : World) (a : ℕ) → AreCells w s → step s a (actor_of x) (place_of x.reads.entries x.writes.entries p) ≡ now s a (actor_of y))
    → ((s : World) → AreCells w s → r ≡ result_of (notice s (actor_of x) (place_of x.reads.entries x.writes.entries p)))
    → StepsOn w x w y r
loads w x y p r at_p turn says = at_place w w x y p r at_p (λ s a h. (
  subst (AreCells w) (sym (turn s a h)) (record { clock = h.clock; locks = h.locks; values = h.values }),
  ap (λ (u : World). u.actors a) (turn s a h) ∙ put-same s.actors a (actor_of y),
  says s h,
))

pub begins : (w : Cells) (x y : Actor) (r : Answer) → x.place ≡ Begin → actor_of y ≡ begun (actor_of x) w.clock
    → r ≡ result_of (begin_notice w.clock) → StepsOn w x w y r
begins w x y r at_p own says = loads w x y Begin r at_p
    (λ s a h. ap (λ (c : ℕ). now s a (begun (actor_of x) c)) h.clock ∙ ap (now s a) (sym own))
    (λ s h. says ∙ ap (λ (c : ℕ). result_of (begin_notice c)) (sym h.clock))

pub looks : (w : Cells) (x y : Actor) (r : Answer) (l word : ℕ) → x.place ≡ Look l → get_or w.locks.items l 0 ≡ word
    → actor_of y ≡ seen (actor_of x) l (unbits word) → r ≡ result_of (look_notice x.rv l (unbits word)) → StepsOn w x w y r
looks w x y r l word at_p found own says = loads w x y (Look l) r at_p
    (λ s a h. ap (looked s a (actor_of x) l) (h.locks l ∙ ap unbits found) ∙ ap (now s a) (sym own))
    (λ s h. says ∙ ap (λ (z : LockWord). result_of (look_notice x.rv l z)) (sym (h.locks l ∙ ap unbits found)))

pub fetches : (w : Cells) (x y : Actor) (r : Answer) (l k value : ℕ) → x.place ≡ Fetch l k → get_or w.values.items l 0 ≡ value
    → actor_of y ≡ goes (actor_of x) (machine.Again l k value) → r ≡ result_of Quiet → StepsOn w x w y r
fetches w x y r l k value at_p found own says = loads w x y (Fetch l k) r at_p
    (λ s a h. ap (λ (v : ℕ). now s a (goes (actor_of x) (machine.Again l k v))) (h.values l ∙ found) ∙ ap (now s a) (sym own))
    (λ s h. says)

pub looks_again : (w : Cells) (x y : Actor) (r : Answer) (l k v word : ℕ) → x.place ≡ Again l k v → get_or w.locks.items l 0 ≡ word
    → actor_of y ≡ seen_again (actor_of x) l k v (unbits word) → r ≡ result_of (again_notice l k v (unbits word)) → StepsOn w x w y r
looks_again w x y r l k v word at_p found own says = loads w x y (Again l k v) r at_p
    (λ s a h. ap (looked_again s a (actor_of x) l k v) (h.locks l ∙ ap unbits found) ∙ ap (now s a) (sym own))
    (λ s h. says ∙ ap (λ (z : LockWord). result_of (again_notice l k v z)) (sym (h.locks l ∙ ap unbits found)))

pub looks_to_lock : (w : Cells) (x y : Actor) (r : Answer) (i l word : ℕ) → x.place ≡ Lock i → i < length x.writes.entries
    → (get_or x.writes.entries i (0, 0)).0 ≡ l → get_or w.locks.items l 0 ≡ word
    → actor_of y ≡ seen_to_lock (actor_of x) l (drop (i + 1) (locations x.writes.entries)) (unbits word)
    → r ≡ result_of (lock_notice l (unbits word)) → StepsOn w x w y r
looks_to_lock w x y r i l word at_p inn loc found own says =
    let ls = drop (i + 1) (locations x.writes.entries) in
    let here : drop i (locations x.writes.entries) ≡ l ∷ ls = drop_here x.writes.entries i (0, 0) inn ∙ ap (λ (n : ℕ). n ∷ ls) loc in
    loads w x y (Lock i) r at_p
    (λ s a h. ap (λ (z : List ℕ). step s a (actor_of x) (machine.Lock z)) here
    ∙ ap (to_lock s a (actor_of x) l ls) (h.locks l ∙ ap unbits found) ∙ ap (now s a) (sym own))
    (λ s h. says ∙ ap (λ (z : LockWord). result_of (lock_notice l z)) (sym (h.locks l ∙ ap unbits found))
    ∙ ap (λ (z : List ℕ). result_of (notice s (actor_of x) (machine.Lock z))) (sym here))

pub checks : (w : Cells) (x y : Actor) (r : Answer) (i l word : ℕ) → x.place ≡ Check i → i < length x.reads.entries
    → (get_or x.reads.entries i (0, 0)).0 ≡ l → get_or w.locks.items l 0 ≡ word
    → actor_of y ≡ seen_in_check (actor_of x) (drop (i + 1) (locations x.reads.entries)) (unbits word) (lookup x.writes.entries l)
    → r ≡ result_of (check_notice x.rv x.wv l (drop (i + 1) (locations x.reads.entries)) (unbits word) (lookup x.writes.entries l))
    → StepsOn w x w y r
checks w x y r i l word at_p inn loc found own says =
    let ls = drop (i + 1) (locations x.reads.entries) in
    let own_write = lookup x.writes.entries l in
    let here : drop i (locations x.reads.entries) ≡ l ∷ ls = drop_here x.reads.entries i (0, 0) inn ∙ ap (λ (n : ℕ). n ∷ ls) loc in
    loads w x y (Check i) r at_p
    (λ s a h. ap (λ (z : List ℕ). step s a (actor_of x) (machine.Check z)) here
    ∙ ap (λ (z : LockWord). checked s a (actor_of x) l ls z own_write) (h.locks l ∙ ap unbits found) ∙ ap (now s a) (sym own))
    (λ s h. says ∙ ap (λ (z : LockWord). result_of (check_notice x.rv x.wv l ls z own_write)) (sym (h.locks l ∙ ap unbits found))
    ∙ ap (λ (z : List ℕ). result_of (notice s (actor_of x) (machine.Check z))) (sym here))

pub stamps : (w t : Cells) (x y : Actor) (r : Answer) (i : ℕ) → x.place ≡ Lock i → length x.writes.entries ≤ i
    → t ≡ record w { clock = w.clock + 1 } → actor_of y ≡ stamped_at (actor_of x) (w.clock + 1)
    → r ≡ result_of (when_none_left (to_check (actor_of x) (w.clock + 1)) (LockedAt (w.clock + 1))) → StepsOn w x t y r
stamps w t x y r i at_p out is own says = subst (λ (z : Cells). StepsOn w x z y r) (sym is)
    (at_place w (record w { clock = w.clock + 1 }) x y (Lock i) r at_p (λ s a h. (
    let here = drop_end x.writes.entries i out in (
      subst (λ (z : List ℕ). AreCells (record w { clock = w.clock + 1 }) (step s a (actor_of x) (machine.Lock z))) (sym here)
          (record { clock = ap (λ (n : ℕ). n + 1) h.clock; locks = h.locks; values = h.values }),
      ap (λ (z : List ℕ). (step s a (actor_of x) (machine.Lock z)).actors a) here
          ∙ put-same s.actors a (stamped_at (actor_of x) (s.clock + 1))
          ∙ ap (λ (n : ℕ). stamped_at (actor_of x) (n + 1)) h.clock ∙ sym own,
      says ∙ ap (λ (n : ℕ). result_of (when_none_left (to_check (actor_of x) (n + 1)) (LockedAt (n + 1)))) (sym h.clock)
          ∙ ap (λ (z : List ℕ). result_of (notice s (actor_of x) (machine.Lock z))) (sym here),
    ))))

-- the lock word of l is n now
locks_put : (w : Cells) (s : World) (l n : ℕ) (k : LockWord) → AreCells w s → l < length w.locks.items → unbits n ≡ k → (i : ℕ)
    → put s.locks l k i ≡ unbits (get_or (set w.locks.items l n) i 0)
locks_put w s l n k h inn is i = elim (cases_eq i l) [
  | inl q ↦ ap (put s.locks l k) q ∙ put-same s.locks l k ∙ sym is
      ∙ ap unbits (sym (ap (λ (j : ℕ). get_or (set w.locks.items l n) j 0) q ∙ get_or-set_same w.locks.items l n 0 inn))
  | inr ne ↦ put-other s.locks l k i ne ∙ h.locks i ∙ ap unbits (sym (get_or-set_other w.locks.items l i n 0 ne))
]

-- the value of l is n now
values_put : (w : Cells) (s : World) (l n : ℕ) → AreCells w s → l < length w.values.items → (i : ℕ)
    → put s.values l n i ≡ get_or (set w.values.items l n) i 0
values_put w s l n h inn i = elim (cases_eq i l) [
  | inl q ↦ ap (put s.values l n) q ∙ put-same s.values l n
      ∙ sym (ap (λ (j : ℕ). get_or (set w.values.items l n) j 0) q ∙ get_or-set_same w.values.items l n 0 inn)
  | inr ne ↦ put-other s.values l n i ne ∙ h.values i ∙ sym (get_or-set_other w.values.items l i n 0 ne)
]

abbrev pub relocked : Cells → ℕ → ℕ → Cells
relocked w l n = record w { locks = with_item w.locks l n }

abbrev pub restored : Cells → ℕ → ℕ → Cells
restored w l n = record w { values = with_item w.values l n }

pub takes : (w : Cells) (x y : Actor) (l k i word : ℕ) → x.place ≡ Take l k i → l < length w.locks.items
    → get_or w.locks.items l 0 ≡ word → word ≡ 2 * k → actor_of y ≡ taken (actor_of x) l k (drop i (locations x.writes.entries))
    → StepsOn w x (relocked w l (word + 1)) y (Ok None)
takes w x y l k i word at_p inn found free own = at_place w (relocked w l (word + 1)) x y (Take l k i) (Ok None) at_p (λ s a h. (
    let ls = drop i (locations x.writes.entries) in
    let is_free : s.locks l ≡ Free k = h.locks l ∙ ap unbits (found ∙ free) ∙ unbits_free k in
    let won : tried s a (actor_of x) l k ls (Free k) ≡ locked s a (actor_of x) l k ls = cond-true (eqb k k)
    (locked s a (actor_of x) l k ls) (now s a (goes (actor_of x) machine.Broken)) (eq-eqb k k refl) in
    let turn : tried s a (actor_of x) l k ls (s.locks l) ≡ locked s a (actor_of x) l k ls = ap (tried s a (actor_of x) l k ls) is_free
    ∙ won in
    let quiet : take_notice l k (Free k) ≡ Quiet = cond-true (eqb k k) Quiet (Busy l (2 * k)) (eq-eqb k k refl) in (
      subst (AreCells (relocked w l (word + 1))) (sym turn)
          (record {
            clock = h.clock;
            locks = locks_put w s l (word + 1) (Locked k) h inn (ap (λ (n : ℕ). unbits (n + 1)) free ∙ unbits_locked k);
            values = h.values;
          }),
      ap (λ (u : World). u.actors a) turn ∙ put-same s.actors a (taken (actor_of x) l k ls) ∙ sym own,
      ap result_of (sym (ap (take_notice l k) is_free ∙ quiet)),
    )))

pub loses : (w : Cells) (x y : Actor) (l k i word : ℕ) → x.place ≡ Take l k i → get_or w.locks.items l 0 ≡ word → (word ≡ 2 * k → ⊥)
    → actor_of y ≡ goes (actor_of x) machine.Broken → StepsOn w x w y (Err (refusal.Busy l word))
loses w x y l k i word at_p found ne own =
    let ls = drop i (locations x.writes.entries) in
    loads w x y (Take l k i) (Err (refusal.Busy l word)) at_p
    (λ s a h. ap (tried s a (actor_of x) l k ls) (h.locks l ∙ ap unbits found)
    ∙ (lost s a (actor_of x) l k ls (unbits word) (λ q. ne (sym (bits_unbits word) ∙ q))).0 ∙ ap (now s a) (sym own))
    (λ s h. ap (λ (n : ℕ). result_of (Busy l n)) (sym (bits_unbits word))
    ∙ ap result_of (sym (ap (take_notice l k) (h.locks l ∙ ap unbits found)
    ∙ (lost s 0 (actor_of x) l k ls (unbits word) (λ q. ne (sym (bits_unbits word) ∙ q))).1)))

-- the last load of the clock, of a transaction that was aborted and of one that commits without writes
pub leaves : (w : Cells) (x y : Actor) → x.place ≡ Leave → actor_of y ≡ goes (actor_of x) machine.Idle
    → StepsOn w x w y (Ok (Some answer.Ended))
leaves w x y at_p own = at_place w w x y Leave (Ok (Some answer.Ended)) at_p (λ s a h. (
  record { clock = h.clock; locks = h.locks; values = h.values },
  put-same s.actors a (goes (actor_of x) machine.Idle) ∙ sym own,
  refl,
))

pub closes : (w : Cells) (x y : Actor) → x.place ≡ Close → actor_of y ≡ goes (actor_of x) machine.Idle
    → StepsOn w x w y (Ok (Some answer.Ended))
closes w x y at_p own = at_place w w x y Close (Ok (Some answer.Ended)) at_p (λ s a h. (
  record { clock = h.clock; locks = h.locks; values = h.values },
  put-same s.actors a (goes (actor_of x) machine.Idle) ∙ sym own,
  refl,
))

pub commits_first : (w : Cells) (x y : Actor) (r : Answer) (e : ℕ × ℕ) → x.place ≡ First
    → x.writes.entries ≡ e ∷ drop 1 x.writes.entries → e.0 < length w.values.items
    → actor_of y ≡ goes (actor_of x) (machine.Store (drop 1 (locations x.writes.entries)))
    → r ≡ result_of (when_none_left (drop 1 (locations x.writes.entries)) Stored) → StepsOn w x (restored w e.0 e.1) y r
unfolding locations
commits_first w x y r e at_p ws inn own says = at_place w (restored w e.0 e.1) x y First r at_p (λ s a h. (
    let es = drop 1 x.writes.entries in
    let turn = ap (first s a (actor_of x)) ws in
    let rest = tail_of x.writes.entries in (
      subst (AreCells (restored w e.0 e.1)) (sym turn)
          (record { clock = h.clock; locks = h.locks; values = values_put w s e.0 e.1 h inn }),
      ap (λ (u : World). u.actors a) turn ∙ put-same s.actors a (goes (actor_of x) (machine.Store (locations es)))
          ∙ ap (λ (ls : List ℕ). goes (actor_of x) (machine.Store ls)) (sym rest) ∙ sym own,
      says ∙ ap (λ (ls : List ℕ). result_of (when_none_left ls Stored)) rest ∙ last_of es
          ∙ ap (λ (z : Entries). result_of (last_notice z Stored)) (sym ws),
    )))
  where
    tail_of : (es : Entries) → drop 1 (locations es) ≡ locations (drop 1 es)
    tail_of [] = refl
    tail_of (d ∷ ds) = refl

    last_of : (es : Entries) → result_of (when_none_left (locations es) Stored) ≡ result_of (last_notice (e ∷ es) Stored)
    last_of [] = refl
    last_of (f ∷ fs) = refl

pub stores : (w : Cells) (x y : Actor) (r : Answer) (i l n : ℕ) → x.place ≡ Store i → i < length x.writes.entries
    → (get_or x.writes.entries i (0, 0)).0 ≡ l → l < length w.values.items → n ≡ unwrap_or (lookup x.writes.entries l) 0
    → actor_of y ≡ goes (actor_of x) (machine.Store (drop (i + 1) (locations x.writes.entries)))
    → r ≡ result_of (when_none_left (drop (i + 1) (locations x.writes.entries)) Stored) → StepsOn w x (restored w l n) y r
stores w x y r i l n at_p inn loc below is own says =
    let ls = drop (i + 1) (locations x.writes.entries) in
    let here : drop i (locations x.writes.entries) ≡ l ∷ ls = drop_here x.writes.entries i (0, 0) inn ∙ ap (λ (n : ℕ). n ∷ ls) loc in
    at_place w (restored w l n) x y (Store i) r at_p (λ s a h. (
      subst (λ (z : List ℕ). AreCells (restored w l n) (step s a (actor_of x) (machine.Store z))) (sym here)
          (record {
            clock = h.clock;
            locks = h.locks;
            values = λ j. ap (λ (v : ℕ). put s.values l v j) (sym is) ∙ values_put w s l n h below j;
          }),
      ap (λ (z : List ℕ). (step s a (actor_of x) (machine.Store z)).actors a) here
          ∙ put-same s.actors a (goes (actor_of x) (machine.Store ls)) ∙ sym own,
      says ∙ ap (λ (z : List ℕ). result_of (notice s (actor_of x) (machine.Store z))) (sym here),
    ))

-- a lock word goes back
pub releases : (w : Cells) (x y : Actor) (r : Answer) (e : ℕ × ℕ) (word : ℕ) → x.place ≡ Release
    → x.held.items ≡ e ∷ drop 1 x.held.items → e.0 < length w.locks.items → word ≡ 2 * x.wv
    → actor_of y ≡ freed (actor_of x) (drop 1 x.held.items) (after_release (drop 1 x.held.items))
    → r ≡ result_of (when_none_left (drop 1 x.held.items) Released) → StepsOn w x (relocked w e.0 word) y r
releases w x y r e word at_p hs inn is own says =
    let es = drop 1 x.held.items in at_place w (relocked w e.0 word) x y Release r at_p (λ s a h. (
    let turn = ap (released s a (actor_of x)) hs ∙ released_is s a (actor_of x) e es in (
      subst (AreCells (relocked w e.0 word)) (sym turn)
          (record {
            clock = h.clock;
            locks = locks_put w s e.0 word (Free x.wv) h inn (ap unbits is ∙ unbits_free x.wv);
            values = h.values;
          }),
      ap (λ (u : World). u.actors a) turn ∙ put-same s.actors a (freed (actor_of x) es (after_release es)) ∙ sym own,
      says ∙ ap (λ (z : Entries). result_of (last_notice z Released)) (sym hs),
    )))

pub undoes : (w : Cells) (x y : Actor) (r : Answer) (e : ℕ × ℕ) (word : ℕ) → x.place ≡ Undo
    → x.held.items ≡ e ∷ drop 1 x.held.items → e.0 < length w.locks.items → word ≡ 2 * e.1
    → actor_of y ≡ freed (actor_of x) (drop 1 x.held.items) machine.Undo
    → r ≡ result_of (when_none_left (drop 1 x.held.items) Cancelled) → StepsOn w x (relocked w e.0 word) y r
undoes w x y r e word at_p hs inn is own says = let es = drop 1 x.held.items in at_place w (relocked w e.0 word) x y Undo r at_p (λ s a h. (
    let turn = ap (undone s a (actor_of x)) hs in (
      subst (AreCells (relocked w e.0 word)) (sym turn)
          (record {
            clock = h.clock;
            locks = locks_put w s e.0 word (Free e.1) h inn (ap unbits is ∙ unbits_free e.1);
            values = h.values;
          }),
      ap (λ (u : World). u.actors a) turn ∙ put-same s.actors a (freed (actor_of x) es machine.Undo) ∙ sym own,
      says ∙ ap (λ (z : Entries). result_of (last_notice z Cancelled)) (sym hs),
    )))

-- where no step is next, none is taken
pub rests : (w : Cells) (x : Actor) (p : Place) → x.place ≡ p
    → ((s : World) (a : ℕ) → step s a (actor_of x) (place_of x.reads.entries x.writes.entries p) ≡ s)
    → ((s : World) → notice s (actor_of x) (place_of x.reads.entries x.writes.entries p) ≡ NoTransaction)
    → StepsOn w x w x (Err refusal.NoTransaction)
rests w x p at_p stays says s a h e =
    let turn : happens s (Step a) ≡ s = ap (λ (z : machine.Actor). step s a z z.place) e
    ∙ ap (λ (z : Place). step s a (actor_of x) (place_of x.reads.entries x.writes.entries z)) at_p ∙ stays s a in (
      subst (AreCells w) (sym turn) h,
      ap (λ (u : World). u.actors a) turn ∙ e,
      ap result_of (sym (ap (λ (z : machine.Actor). notice s z z.place) e
          ∙ ap (λ (z : Place). notice s (actor_of x) (place_of x.reads.entries x.writes.entries z)) at_p ∙ says s)),
    )

-- what the actor keeps beside what it shows
pub same_actor : (w t : Cells) (x y z : Actor) (r : Answer) → StepsOn w x t y r → actor_of z ≡ actor_of y → StepsOn w x t z r
same_actor w t x y z r steps same s a h e = let st = steps s a h e in (st.0, st.1 ∙ sym same, st.2)

-- nothing is left to check, or to store
pub checked_all : (w : Cells) (x : Actor) (i : ℕ) → x.place ≡ Check i → length x.reads.entries ≤ i
    → StepsOn w x w x (Err refusal.NoTransaction)
checked_all w x i at_p out = rests w x (Check i) at_p
    (λ s a. ap (λ (ls : List ℕ). step s a (actor_of x) (machine.Check ls)) (drop_end x.reads.entries i out))
    (λ s. ap (λ (ls : List ℕ). notice s (actor_of x) (machine.Check ls)) (drop_end x.reads.entries i out))

pub stored_all : (w : Cells) (x : Actor) (i : ℕ) → x.place ≡ Store i → length x.writes.entries ≤ i
    → StepsOn w x w x (Err refusal.NoTransaction)
stored_all w x i at_p out = rests w x (Store i) at_p
    (λ s a. ap (λ (ls : List ℕ). step s a (actor_of x) (machine.Store ls)) (drop_end x.writes.entries i out))
    (λ s. ap (λ (ls : List ℕ). notice s (actor_of x) (machine.Store ls)) (drop_end x.writes.entries i out))

-- the actor at another place
abbrev pub placed : Actor → Place → Actor
placed x p = record x { place = p }
