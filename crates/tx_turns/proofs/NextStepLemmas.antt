-- The step that is next at each place, and what its number makes of the actor.
--
-- A place of the code is one of the machine once its index is taken for the list after it; the deed is then that of the place.
use Rattle.std.proofs.Common.{◌≡◌, ℕ, ◌+◌, ◌<◌, ◌≤◌, ◌*◌, ◌^◌, subst, List, [], ◌∷◌, length, drop, refl, sym, ap, ◌∙◌, get_or, arith, Ok}
use Rattle.std.proofs.Common.{Err, Option, None}
use Rattle.std.proofs.lemmas.Bool.{cond-true, cond-false}
use Rattle.std.proofs.Common.{eqb, eq-eqb, ne_eqb}
use Rattle.vlock_word.specs.declared.lock_word.LockWord.{LockWord}
use Rattle.vlock_word.specs.declared.lock_word.LockWord.TheVariants.{Free, Locked}
use Rattle.vlock_word.specs.LockWord.{bits, unbits}
use Rattle.vlock_word.proofs.LockWordLemmas.{bits_unbits, unbits_free}
use Rattle.tx_sets.specs.Entries.{Entries, IsRising, locations, lookup}
use Rattle.tx_machine.specs.Actor as machine
use Rattle.tx_machine.specs.Actor.{goes, seen_to_lock, stamped_at, taken, seen_in_check, freed, after_release, to_check}
use Rattle.tx_machine.specs.World.{Deed, Rests, AddToClock, LoadLock, StoreValue, StoreLock, plan, first_store, release, undo}
use Rattle.tx_machine.specs.Cells.{learns}
use Rattle.tx_machine.specs.Notices.{Notice, Quiet, Busy, Stored, Released, Cancelled, LockedAt, take_notice, lock_notice, check_notice}
use Rattle.tx_machine.specs.Notices.{when_none_left, last_notice}
use Rattle.actor_laws.specs.StepAnswers.{tells}
use Rattle.step_core.specs.Answers.{result_of}
use Rattle.step_core.specs.Shown.{actor_of, place_of}
use Rattle.step_core.specs.declared.actor.Actor.{Actor}
use Rattle.step_core.specs.declared.actor.Place.{Place}
use Rattle.step_core.specs.declared.actor.Place.TheVariants.{Check, First, Lock, Release, Store, Take, Undo}
use Rattle.step_core.specs.declared.answer.WordAnswer.{WordAnswer}
use Rattle.step_core.specs.declared.answer.WordRefusal.TheVariants as refusal
use Rattle.step_core.proofs.Lists.{Answer, drop_here, drop_end, get_or_same, head_tail}
use Rattle.step_core.proofs.CellMoves.{entry_first, value_is}
use Rattle.tx_turns.specs.NextStep.{HasClock, IsDeed, Learns}
use Rattle.tx_turns.specs.Touches.{IsClock, IsInWord}
use Rattle.tx_turns.specs.declared.due.NextStep.{NextStep}
use Rattle.tx_turns.specs.declared.due.NextStep.TheVariants as due

-- the deed of x at p
abbrev pub deed_at : Actor → Place → Deed
deed_at x p = plan (actor_of x) (place_of x.reads.entries x.writes.entries p)

pub at_place : (x : Actor) (p : Place) → x.place ≡ p → plan (actor_of x) (actor_of x).place ≡ deed_at x p
at_place x p e = ap (deed_at x) e

abbrev pub told_at : Actor → Place → ℕ → Notice
told_at x p n = tells (actor_of x) (place_of x.reads.entries x.writes.entries p) n

-- what is learnt at a place
pub learns_at : (x y : Actor) (p : Place) (n : ℕ) (r : Answer) → x.place ≡ p → actor_of y ≡ learns (deed_at x p) (actor_of x) n
    → r ≡ result_of (told_at x p n) → Learns x n y r
learns_at x y p n r e own says = record {
  actor = own ∙ sym (ap (λ (q : Place). learns (deed_at x q) (actor_of x) n) e);
  told = says ∙ sym (ap (λ (q : Place). result_of (told_at x q n)) e);
}

-- the locations after an index
pub next_is : (es : Entries) (i : ℕ) (e : ℕ × ℕ) → i < length es → e ≡ get_or es i e
    → drop i (locations es) ≡ e.0 ∷ drop (i + 1) (locations es)
next_is es i e low q =
    drop_here es i (0, 0) low ∙ ap (λ (z : ℕ × ℕ). z.0 ∷ drop (i + 1) (locations es)) (get_or_same es i (0, 0) e low ∙ sym q)

pub took_notice : (l k : ℕ) → take_notice l k (unbits (2 * k)) ≡ Quiet
took_notice l k = ap (take_notice l k) (unbits_free k) ∙ cond-true (eqb k k) Quiet (Busy l (2 * k)) (eq-eqb k k refl)

lost : (l k w : ℕ) (v : LockWord) → bits v ≡ w → (w ≡ 2 * k → ⊥) → take_notice l k v ≡ Busy l w
lost l k w (Free j) e ne = cond-false (eqb j k) Quiet (Busy l (2 * j)) (ne_eqb j k (λ q. ne (sym e ∙ ap (λ (n : ℕ). 2 * n) q)))
    ∙ ap (Busy l) e
lost l k w (Locked j) e ne = ap (Busy l) e

pub lost_notice : (l k w : ℕ) → (w ≡ 2 * k → ⊥) → take_notice l k (unbits w) ≡ Busy l w
lost_notice l k w ne = lost l k w (unbits w) (bits_unbits w) ne

no_items : (es : Entries) → length es ≡ 0 → es ≡ []
no_items [] e = refl
no_items (d ∷ es) e = absurd (omega (arith, e))

-- ---- which deed is next
pub lock_is : (x : Actor) (i : ℕ) (e : ℕ × ℕ) → i < length x.writes.entries → e ≡ get_or x.writes.entries i e
    → deed_at x (Lock i) ≡ LoadLock e.0 (seen_to_lock (actor_of x) e.0 (drop (i + 1) (locations x.writes.entries)))
lock_is x i e low q = ap (λ (ls : List ℕ). plan (actor_of x) (machine.Lock ls)) (next_is x.writes.entries i e low q)

pub stamp_is : (x : Actor) (i : ℕ) → length x.writes.entries ≤ i → deed_at x (Lock i) ≡ AddToClock (λ n. stamped_at (actor_of x) (n + 1))
stamp_is x i high = ap (λ (ls : List ℕ). plan (actor_of x) (machine.Lock ls)) (drop_end x.writes.entries i high)

pub check_is : (x : Actor) (i : ℕ) (e : ℕ × ℕ) → i < length x.reads.entries → e ≡ get_or x.reads.entries i e
    → deed_at x (Check i)
    ≡ LoadLock e.0 (λ w. seen_in_check (actor_of x) (drop (i + 1) (locations x.reads.entries)) w (lookup x.writes.entries e.0))
check_is x i e low q = ap (λ (ls : List ℕ). plan (actor_of x) (machine.Check ls)) (next_is x.reads.entries i e low q)

pub checked_is : (x : Actor) (i : ℕ) → length x.reads.entries ≤ i → deed_at x (Check i) ≡ Rests
checked_is x i high = ap (λ (ls : List ℕ). plan (actor_of x) (machine.Check ls)) (drop_end x.reads.entries i high)

pub first_is : (x : Actor) (e : ℕ × ℕ) → 0 < length x.writes.entries → e ≡ get_or x.writes.entries 0 e
    → deed_at x First ≡ StoreValue e.0 e.1 (goes (actor_of x) (machine.Store (locations (drop 1 x.writes.entries))))
first_is x e some q = ap (first_store (actor_of x)) (entry_first x.writes.entries e some q)

pub store_is : (x : Actor) (i : ℕ) (e : ℕ × ℕ) → IsRising x.writes.entries → i < length x.writes.entries → e ≡ get_or x.writes.entries i e
    → deed_at x (Store i) ≡ StoreValue e.0 e.1 (goes (actor_of x) (machine.Store (drop (i + 1) (locations x.writes.entries))))
store_is x i e rise low q =
    ap (λ (ls : List ℕ). plan (actor_of x) (machine.Store ls)) (next_is x.writes.entries i e low q)
    ∙ ap (λ (v : ℕ). StoreValue e.0 v (goes (actor_of x) (machine.Store (drop (i + 1) (locations x.writes.entries)))))
    (sym (value_is x.writes.entries i e rise low q))

pub stored_is : (x : Actor) (i : ℕ) → length x.writes.entries ≤ i → deed_at x (Store i) ≡ Rests
stored_is x i high = ap (λ (ls : List ℕ). plan (actor_of x) (machine.Store ls)) (drop_end x.writes.entries i high)

pub release_is : (x : Actor) (e : ℕ × ℕ) → 0 < length x.held.items → e ≡ get_or x.held.items 0 e
    → deed_at x Release
    ≡ StoreLock e.0 (Free x.wv) (freed (actor_of x) (drop 1 x.held.items) (after_release (drop 1 x.held.items)))
release_is x e some q = ap (release (actor_of x)) (entry_first x.held.items e some q)

pub undo_is : (x : Actor) (e : ℕ × ℕ) → 0 < length x.held.items → e ≡ get_or x.held.items 0 e
    → deed_at x Undo ≡ StoreLock e.0 (Free e.1) (freed (actor_of x) (drop 1 x.held.items) machine.Undo)
undo_is x e some q = ap (undo (actor_of x)) (entry_first x.held.items e some q)

-- ---- what is learnt
map_drop : (es : Entries) → locations (drop 1 es) ≡ drop 1 (locations es)
unfolding locations
map_drop [] = refl
map_drop (e ∷ es) = refl

pub learns_lock : (x y : Actor) (i n : ℕ) (e : ℕ × ℕ) (r : Answer) → x.place ≡ Lock i → i < length x.writes.entries
    → e ≡ get_or x.writes.entries i e
    → actor_of y ≡ seen_to_lock (actor_of x) e.0 (drop (i + 1) (locations x.writes.entries)) (unbits n)
    → r ≡ result_of (lock_notice e.0 (unbits n)) → Learns x n y r
learns_lock x y i n e r at low q own says =
    let ls = next_is x.writes.entries i e low q in
    learns_at x y (Lock i) n r at (own ∙ sym (ap (λ (z : List ℕ). learns (plan (actor_of x) (machine.Lock z)) (actor_of x) n) ls))
    (says ∙ sym (ap (λ (z : List ℕ). result_of (tells (actor_of x) (machine.Lock z) n)) ls))

pub learns_stamp : (x y : Actor) (i n : ℕ) (r : Answer) → x.place ≡ Lock i → length x.writes.entries ≤ i
    → actor_of y ≡ stamped_at (actor_of x) (n + 1)
    → r ≡ result_of (when_none_left (to_check (actor_of x) (n + 1)) (LockedAt (n + 1))) → Learns x n y r
learns_stamp x y i n r at high own says =
    let ls = drop_end x.writes.entries i high in
    learns_at x y (Lock i) n r at (own ∙ sym (ap (λ (z : List ℕ). learns (plan (actor_of x) (machine.Lock z)) (actor_of x) n) ls))
    (says ∙ sym (ap (λ (z : List ℕ). result_of (tells (actor_of x) (machine.Lock z) n)) ls))

pub learns_check : (x y : Actor) (i n : ℕ) (e : ℕ × ℕ) (r : Answer) → x.place ≡ Check i → i < length x.reads.entries
    → e ≡ get_or x.reads.entries i e
    → actor_of y ≡ seen_in_check (actor_of x) (drop (i + 1) (locations x.reads.entries)) (unbits n) (lookup x.writes.entries e.0)
    → r ≡ result_of (check_notice x.rv x.wv e.0 (drop (i + 1) (locations x.reads.entries)) (unbits n) (lookup x.writes.entries e.0))
    → Learns x n y r
learns_check x y i n e r at low q own says =
    let ls = next_is x.reads.entries i e low q in
    learns_at x y (Check i) n r at (own ∙ sym (ap (λ (z : List ℕ). learns (plan (actor_of x) (machine.Check z)) (actor_of x) n) ls))
    (says ∙ sym (ap (λ (z : List ℕ). result_of (tells (actor_of x) (machine.Check z) n)) ls))

pub learns_checked : (x : Actor) (i n : ℕ) → x.place ≡ Check i → length x.reads.entries ≤ i → Learns x n x (Err refusal.NoTransaction)
learns_checked x i n at high =
    let ls = drop_end x.reads.entries i high in
    learns_at x x (Check i) n (Err refusal.NoTransaction) at
    (sym (ap (λ (z : List ℕ). learns (plan (actor_of x) (machine.Check z)) (actor_of x) n) ls))
    (sym (ap (λ (z : List ℕ). result_of (tells (actor_of x) (machine.Check z) n)) ls))

pub learns_taken : (x y : Actor) (l k i : ℕ) → x.place ≡ Take l k i
    → actor_of y ≡ taken (actor_of x) l k (drop i (locations x.writes.entries)) → Learns x (2 * k) y (Ok None)
learns_taken x y l k i at own =
    let ls = drop i (locations x.writes.entries) in
    learns_at x y (Take l k i) (2 * k) (Ok None) at
    (own ∙ sym (cond-true (eqb (2 * k) (2 * k)) (taken (actor_of x) l k ls) (goes (actor_of x) machine.Broken)
    (eq-eqb (2 * k) (2 * k) refl)))
    (sym (ap result_of (took_notice l k)))

pub learns_lost : (x y : Actor) (l k i n : ℕ) → x.place ≡ Take l k i → (n ≡ 2 * k → ⊥) → actor_of y ≡ goes (actor_of x) machine.Broken
    → Learns x n y (Err (refusal.Busy l n))
learns_lost x y l k i n at ne own =
    let ls = drop i (locations x.writes.entries) in
    learns_at x y (Take l k i) n (Err (refusal.Busy l n)) at
    (own ∙ sym (cond-false (eqb n (2 * k)) (taken (actor_of x) l k ls) (goes (actor_of x) machine.Broken) (ne_eqb n (2 * k) ne)))
    (sym (ap result_of (lost_notice l k n ne)))

none_by : (es : Entries) (m : Notice) → result_of (when_none_left (locations es) m) ≡ result_of (when_none_left es m)
unfolding locations
none_by [] m = refl
none_by (e ∷ es) m = refl

pub learns_first : (x y : Actor) (n : ℕ) (o : Option WordAnswer) → x.place ≡ First → 0 < length x.writes.entries
    → actor_of y ≡ goes (actor_of x) (machine.Store (drop 1 (locations x.writes.entries)))
    → Ok o ≡ result_of (when_none_left (drop 1 (locations x.writes.entries)) Stored) → Learns x n y (Ok o)
learns_first x y n o at some own says =
    let e = get_or x.writes.entries 0 (0, 0) in
    let es = head_tail x.writes.entries (0, 0) some in
    learns_at x y First n (Ok o) at
    (own ∙ (ap (λ (ls : List ℕ). goes (actor_of x) (machine.Store ls)) (sym (map_drop x.writes.entries))
    ∙ sym (ap (λ (z : Entries). learns (first_store (actor_of x) z) (actor_of x) n) es)))
    (says ∙ (ap (λ (ls : List ℕ). result_of (when_none_left ls Stored)) (sym (map_drop x.writes.entries))
    ∙ none_by (drop 1 x.writes.entries) Stored
    ∙ sym (ap (λ (z : Entries). result_of (last_notice z Stored)) es)))

pub learns_nothing_first : (x : Actor) (n : ℕ) → x.place ≡ First → length x.writes.entries ≡ 0 → Learns x n x (Err refusal.NoTransaction)
learns_nothing_first x n at none =
    let es = no_items x.writes.entries none in
    learns_at x x First n (Err refusal.NoTransaction) at
    (sym (ap (λ (z : Entries). learns (first_store (actor_of x) z) (actor_of x) n) es))
    (sym (ap (λ (z : Entries). result_of (last_notice z Stored)) es))

pub learns_store : (x y : Actor) (i n : ℕ) (o : Option WordAnswer) → x.place ≡ Store i → i < length x.writes.entries
    → actor_of y ≡ goes (actor_of x) (machine.Store (drop (i + 1) (locations x.writes.entries)))
    → Ok o ≡ result_of (when_none_left (drop (i + 1) (locations x.writes.entries)) Stored) → Learns x n y (Ok o)
learns_store x y i n o at low own says =
    let ls = next_is x.writes.entries i (get_or x.writes.entries i (0, 0)) low
    (get_or_same x.writes.entries i (0, 0) (get_or x.writes.entries i (0, 0)) low) in
    learns_at x y (Store i) n (Ok o) at (own ∙ sym (ap (λ (z : List ℕ). learns (plan (actor_of x) (machine.Store z)) (actor_of x) n) ls))
    (says ∙ sym (ap (λ (z : List ℕ). result_of (tells (actor_of x) (machine.Store z) n)) ls))

pub learns_stored : (x : Actor) (i n : ℕ) → x.place ≡ Store i → length x.writes.entries ≤ i → Learns x n x (Err refusal.NoTransaction)
learns_stored x i n at high =
    let ls = drop_end x.writes.entries i high in
    learns_at x x (Store i) n (Err refusal.NoTransaction) at
    (sym (ap (λ (z : List ℕ). learns (plan (actor_of x) (machine.Store z)) (actor_of x) n) ls))
    (sym (ap (λ (z : List ℕ). result_of (tells (actor_of x) (machine.Store z) n)) ls))

pub learns_release : (x y : Actor) (n : ℕ) (o : Option WordAnswer) → x.place ≡ Release → 0 < length x.held.items
    → actor_of y ≡ freed (actor_of x) (drop 1 x.held.items) (after_release (drop 1 x.held.items))
    → Ok o ≡ result_of (when_none_left (drop 1 x.held.items) Released) → Learns x n y (Ok o)
learns_release x y n o at some own says =
    let es = head_tail x.held.items (0, 0) some in
    learns_at x y Release n (Ok o) at (own ∙ sym (ap (λ (z : Entries). learns (release (actor_of x) z) (actor_of x) n) es))
    (says ∙ sym (ap (λ (z : Entries). result_of (last_notice z Released)) es))

pub learns_undo : (x y : Actor) (n : ℕ) (o : Option WordAnswer) → x.place ≡ Undo → 0 < length x.held.items
    → actor_of y ≡ freed (actor_of x) (drop 1 x.held.items) machine.Undo
    → Ok o ≡ result_of (when_none_left (drop 1 x.held.items) Cancelled) → Learns x n y (Ok o)
learns_undo x y n o at some own says =
    let es = head_tail x.held.items (0, 0) some in
    learns_at x y Undo n (Ok o) at (own ∙ sym (ap (λ (z : Entries). learns (undo (actor_of x) z) (actor_of x) n) es))
    (says ∙ sym (ap (λ (z : Entries). result_of (last_notice z Cancelled)) es))

-- ---- what a step asks of its number
abbrev IsAdd : Deed → Type 0
IsAdd (AddToClock f) = Unit {0}
IsAdd e = ⊥

pub in_word : (d : NextStep) (e : Deed) → IsDeed d e → IsInWord d
in_word (due.Lock l old) e h = (let a = h.4 in let b = h.5 in omega (arith, a, b))
in_word d e h = tt

clock_at : (d : NextStep) (e : Deed) (n k : ℕ) → IsAdd e → IsDeed d e → IsClock d n k → n + 1 < 2 ^ 63
clock_at due.Nothing e n k add h c = absurd (subst IsAdd h add)
clock_at due.LoadClock e n k add h c = absurd (subst IsAdd h.1 add)
clock_at due.AddToClock e n k add h c = (let b = c.1 in omega (arith, b))
clock_at (due.LoadLock l) e n k add h c = absurd (subst IsAdd h.1 add)
clock_at (due.LoadValue l) e n k add h c = absurd (subst IsAdd h.1 add)
clock_at (due.Lock l old) e n k add h c = absurd (subst IsAdd h.3 add)
clock_at (due.StoreValue l v) e n k add h c = absurd (subst IsAdd h.1 add)
clock_at (due.StoreLock l w) e n k add h c = absurd (subst IsAdd h.2 add)

pub has_clock : (x : Actor) (d : NextStep) (n k : ℕ) → IsDeed d (plan (actor_of x) (actor_of x).place) → IsClock d n k → HasClock n x
has_clock x d n k deed clock i at high =
    clock_at d (plan (actor_of x) (actor_of x).place) n k (subst IsAdd (sym (at_place x (Lock i) at ∙ stamp_is x i high)) tt) deed clock
