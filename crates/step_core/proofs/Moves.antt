-- Steps of the running words are steps of the machine: what the cells and the actor make of each other is said of every world that has
-- them, and no step touches another actor. The counts of numbers owed and of records due follow what the one actor's place changes.
use Rattle.std.proofs.Common.{◌≡◌, ◌⊎◌, ℕ, zero, suc, ◌+◌, ◌<◌, ◌≤◌, ◌^◌, List, [], ◌∷◌, ◌++◌, Some, None, Ok, Err, IfOk, OnErr, Option}
use Rattle.std.proofs.Common.{length, map, get_or, set, refl, sym, ap, ◌∙◌, subst, inl, inr, arith, Bool, true, false, eqb, get_or-set_same}
use Rattle.std.proofs.Common.{get_or-set_other}
use Rattle.std.specs.Prelude.{slice_get, slice_set, if◌then◌else◌}
use Rattle.std.specs.Vec.{vec_len, vec_capacity, with_item}
use Rattle.std.specs.List.{All}
use Rattle.std.proofs.lemmas.List.{map-set}
use Rattle.std.proofs.lemmas.List.Elements.{All-set}
use Rattle.std.proofs.lemmas.Bool.{cases_Bool, cases_eq}
use Rattle.tx_machine.specs.Actor as machine
use Rattle.tx_sets.specs.Entries.{Entries}
use Rattle.tx_machine.specs.World as world
use Rattle.tx_machine.specs.Requests.{Request}
use Rattle.vlock_word.specs.declared.lock_word.LockWord.{LockWord}
use Rattle.vlock_word.specs.declared.lock_word.LockWord.TheVariants.{Free, Locked}
use Rattle.tx_machine.specs.Requests.{ask}
use Rattle.tx_machine.specs.World.{World, Ask, Event, Step, StepEnd, GoesOn, step_end, first_step_end, happens, run, start, step, put, now}
use Rattle.tx_machine.specs.Notices.{reply, notice}
use Rattle.tx_machine.proofs.Sets.{put-same, put-other}
use Rattle.vlock_word.specs.LockWord.{unbits}
use Rattle.tx_machine.specs.World.{in_order}
use Rattle.tx_machine.specs.World.{blank}
use Rattle.step_core.specs.Answers.{result_of}
use Rattle.step_core.specs.Phases.{opens}
use Rattle.step_core.specs.Shown.{place_of, actor_of, call_of, record_of, Shown, shown, Shows, Steps, Asks, listed, Reached}
use Rattle.step_core.specs.Sound.{Fits, owed, due, total, Sound}
use Rattle.step_core.specs.declared.answer.WordRefusal.TheVariants as refusal
use Rattle.step_core.specs.declared.actor.Place.{Place}
use Rattle.step_core.specs.declared.actor.Place.TheVariants.{Idle, Begin, Open, Look, Fetch, Again, Lock, Take, Check, Broken, First, Store}
use Rattle.step_core.specs.declared.actor.Place.TheVariants.{Release, Undo, Leave, Close}
use Rattle.step_core.specs.declared.answer.WordAnswer.{WordAnswer}
use Rattle.step_core.specs.declared.record.WordRecord.{WordRecord}
use Rattle.step_core.specs.declared.actor.Actor.{Actor}
use Rattle.step_core.specs.declared.machine.Machine.{Machine}
use Rattle.step_core.specs.declared.machine.TheConstants.{SEATS}
use Rattle.step_core.specs.CellSteps.{StepsOn, HaveLength, Grows}
use Rattle.step_core.proofs.Lists.{Answer, inside, All-at}
use Rattle.tx_machine.proofs.AnswerBound.{step_other}
use Rattle.tx_machine.specs.World.{does, plan, noted, Commits, Aborts, Deed, Rests, LoadClock, AddToClock, LoadLock, LoadValue}
use Rattle.tx_machine.specs.World.{ExchangeLock, StoreValue, StoreLock}

pub actor_at_go : (xs : List Actor) (a : ℕ) (x : Actor) → slice_get xs a ≡ Some x → get_or (map actor_of xs) a blank ≡ actor_of x
actor_at_go [] a x h = absurd (let z : None ≡ Some x = h in cc)
actor_at_go (y ∷ ys) zero x h = ap actor_of (let z : Some y ≡ Some x = h in let q : y ≡ x = cc in q)
actor_at_go (y ∷ ys) (suc a) x h = actor_at_go ys a x h

pub actor_at : (w : Machine) (s : World) (a : ℕ) (x : Actor) → Shows (shown w) s → slice_get w.actors.items a ≡ Some x → s.actors a
    ≡ actor_of x
actor_at w s a x h got = h.actors a ∙ actor_at_go w.actors.items a x got

length-map_actors : (xs : List Actor) → length (map actor_of xs) ≡ length xs
length-map_actors [] = refl
length-map_actors (x ∷ xs) = ap suc (length-map_actors xs)

-- what t shows: actor a is y, and the rest is as said
pub shows_next : (w t : Machine) (s u : World) (a : ℕ) (y : Actor) → Shows (shown w) s → a < length w.actors.items → t.actors.items
    ≡ slice_set w.actors.items a y → u.actors ≡ put s.actors a (actor_of y)
    → u.clock ≡ t.cells.clock → ((l : ℕ) → u.locks l ≡ unbits (get_or t.cells.locks.items l 0))
    → ((l : ℕ) → u.values l ≡ get_or t.cells.values.items l 0)
    → u.history ≡ in_order [] (map record_of t.history.items)
    → Shows (shown t) u
shows_next w t s u a y h inn xs us c ls vs hs = record {
  clock = c;
  locks = ls;
  values = vs;
  history = hs;
  actors = λ b. (
      let row : map actor_of t.actors.items ≡ set (map actor_of w.actors.items) a (actor_of y) = ap (map actor_of) xs
      ∙ map-set actor_of w.actors.items a y in
      let far : get_or (map actor_of t.actors.items) b blank ≡ get_or (set (map actor_of w.actors.items) a (actor_of y)) b blank = ap
      (λ (z : List machine.Actor). get_or z b blank) row in
      ap (λ (f : ℕ → machine.Actor). f b) us ∙ elim (cases_eq b a) [
        | inl q ↦ ap (put s.actors a (actor_of y)) q ∙ put-same s.actors a (actor_of y)
            ∙ sym (far ∙ ap (λ (n : ℕ). get_or (set (map actor_of w.actors.items) a (actor_of y)) n blank) q
            ∙ get_or-set_same (map actor_of w.actors.items) a (actor_of y) blank
            (subst (λ (n : ℕ). a < n) (sym (length-map_actors w.actors.items)) inn))
        | inr ne ↦ put-other s.actors a (actor_of y) b ne ∙ h.actors b
            ∙ sym (far ∙ get_or-set_other (map actor_of w.actors.items) a b (actor_of y) blank ne)
      ]);
}

-- actor a is y
abbrev pub moved : Machine → ℕ → Actor → Machine
moved w a y = record w { actors = with_item w.actors a y }

pub shows_moved : (w : Machine) (s : World) (a : ℕ) (x y : Actor) → Shows (shown w) s → slice_get w.actors.items a ≡ Some x
    → Shows (shown (moved w a y)) (now s a (actor_of y))
shows_moved w s a x y h got = shows_next w (moved w a y) s (now s a (actor_of y)) a y h
    (inside w.actors.items a x got) refl refl h.clock h.locks h.values h.history

-- the history, which a step leaves, until it takes note of what that ends
exchanged_history : (s : World) (a l k : ℕ) (won lost : machine.Actor) (w : LockWord)
    → (world.exchanged s a l k won lost w).history ≡ s.history
exchanged_history s a l k won lost (Free j) = either (eqb j k)
  where
    either : (b : Bool) → (if b then record (now s a won) { locks = put s.locks l (Locked k) } else now s a lost).history ≡ s.history
    either true = refl
    either false = refl
exchanged_history s a l k won lost (Locked j) = refl

does_history : (s : World) (a : ℕ) (d : Deed) → (does s a d).history ≡ s.history
does_history s a Rests = refl
does_history s a (LoadClock f) = refl
does_history s a (AddToClock f) = refl
does_history s a (LoadLock l f) = refl
does_history s a (LoadValue l f) = refl
does_history s a (ExchangeLock l k won lost) = exchanged_history s a l k won lost (s.locks l)
does_history s a (StoreValue l v y) = refl
does_history s a (StoreLock l w y) = refl

abbrev listed_by : StepEnd → List world.Record → List world.Record
listed_by GoesOn rs = rs
listed_by (Commits r) rs = world.insert r rs
listed_by (Aborts e) rs = rs

noted_history : (s : World) (o : StepEnd) → (noted s o).history ≡ listed_by o s.history
noted_history s GoesOn = refl
noted_history s (Commits r) = refl
noted_history s (Aborts e) = refl

in_order_next : (sorted rs : List world.Record) (r : world.Record) → in_order sorted (rs ++ r ∷ []) ≡ world.insert r (in_order sorted rs)
in_order_next sorted [] r = refl
in_order_next sorted (x ∷ rs) r = in_order_next (world.insert x sorted) rs r

in_order_listed : (rs : List world.Record) (o : StepEnd) → in_order [] (listed rs o) ≡ listed_by o (in_order [] rs)
in_order_listed rs GoesOn = refl
in_order_listed rs (Commits r) = in_order_next [] rs r
in_order_listed rs (Aborts e) = refl

-- one actor is stepped, on the cells, and the history has what that ends
pub steps_on : (w t : Machine) (a : ℕ) (x y : Actor) (r : Answer) → slice_get w.actors.items a ≡ Some x
    → StepsOn w.cells x t.cells y r → t.actors.items ≡ slice_set w.actors.items a y
    → length t.cells.values.items ≡ length w.cells.values.items
    → map record_of t.history.items ≡ listed (map record_of w.history.items) (step_end a (actor_of x) (actor_of x).place)
    → Steps (shown w) a (shown t) r
steps_on w t a x y r got on xs len hs s h =
    let e = actor_at w s a x h got in
    let st = on s a (record { clock = h.clock; locks = h.locks; values = h.values }) e in
    let o = step_end a (s.actors a) (s.actors a).place in
    let rs = map record_of w.history.items in
    let ended : map record_of t.history.items ≡ listed rs o = hs ∙ ap (λ (z : machine.Actor). listed rs (step_end a z z.place)) (sym e) in (
      record {
        clock = st.0.clock;
        locks = st.0.locks;
        values = st.0.values;
        history = noted_history (does s a (plan (s.actors a) (s.actors a).place)) o
            ∙ ap (listed_by o) (does_history s a (plan (s.actors a) (s.actors a).place) ∙ h.history)
            ∙ sym (ap (in_order []) ended ∙ in_order_listed rs o);
        actors = λ b. others b;
      },
      st.2,
      (len, ended),
    )
  where
    row : map actor_of t.actors.items ≡ set (map actor_of w.actors.items) a (actor_of y)
    row = ap (map actor_of) xs ∙ map-set actor_of w.actors.items a y

    others : (b : ℕ) → (happens s (Step a)).actors b ≡ get_or (map actor_of t.actors.items) b blank
    others b =
        let here = ap (λ (z : List machine.Actor). get_or z b blank) row in
        elim (cases_eq b a) [
          | inl q ↦ ap (happens s (Step a)).actors q
              ∙ (on s a (record { clock = h.clock; locks = h.locks; values = h.values }) (actor_at w s a x h got)).1
              ∙ sym (here ∙ ap (λ (n : ℕ). get_or (set (map actor_of w.actors.items) a (actor_of y)) n blank) q
              ∙ get_or-set_same (map actor_of w.actors.items) a (actor_of y) blank
              (subst (λ (n : ℕ). a < n) (sym (length-map_actors w.actors.items)) (inside w.actors.items a x got)))
          | inr ne ↦ step_other s a b ne ∙ h.actors b
              ∙ sym (here ∙ get_or-set_other (map actor_of w.actors.items) a b (actor_of y) blank ne)
        ]

-- a step that ends nothing adds no record
goes_on : (a : ℕ) (x : Actor) (p : Place) → (p ≡ First → ⊥) → (p ≡ Close → ⊥) → (rs : List world.Record)
    → listed rs (step_end a (actor_of x) (place_of x.reads.entries x.writes.entries p)) ≡ rs
goes_on a x Idle f c rs = refl
goes_on a x Begin f c rs = refl
goes_on a x Open f c rs = refl
goes_on a x (Look l) f c rs = refl
goes_on a x (Fetch l k) f c rs = refl
goes_on a x (Again l k v) f c rs = refl
goes_on a x (Lock i) f c rs = refl
goes_on a x (Take l k i) f c rs = refl
goes_on a x (Check i) f c rs = refl
goes_on a x Broken f c rs = refl
goes_on a x First f c rs = absurd (f refl)
goes_on a x (Store i) f c rs = refl
goes_on a x Release f c rs = refl
goes_on a x Undo f c rs = refl
goes_on a x Leave f c rs = refl
goes_on a x Close f c rs = absurd (c refl)

pub steps_quietly : (w t : Machine) (a : ℕ) (x y : Actor) (r : Answer) → slice_get w.actors.items a ≡ Some x
    → (x.place ≡ First → ⊥) → (x.place ≡ Close → ⊥) → StepsOn w.cells x t.cells y r → t.actors.items ≡ slice_set w.actors.items a y
    → length t.cells.values.items ≡ length w.cells.values.items → t.history.items ≡ w.history.items → Steps (shown w) a (shown t) r
steps_quietly w t a x y r got f c on xs len hs = steps_on w t a x y r got on xs len
    (ap (map record_of) hs ∙ sym (goes_on a x x.place f c (map record_of w.history.items)))

-- a record more
map_record : (h : List WordRecord) (r : WordRecord) → map record_of (h ++ r ∷ []) ≡ map record_of h ++ record_of r ∷ []
map_record [] r = refl
map_record (x ∷ h) r = ap (λ (rs : List world.Record). record_of x ∷ rs) (map_record h r)

-- one that commits adds its record
pub steps_committing : (w t : Machine) (a : ℕ) (x y : Actor) (r : Answer) (own : WordRecord) → slice_get w.actors.items a ≡ Some x
    → StepsOn w.cells x t.cells y r → t.actors.items ≡ slice_set w.actors.items a y
    → length t.cells.values.items ≡ length w.cells.values.items → t.history.items ≡ w.history.items ++ own ∷ []
    → step_end a (actor_of x) (actor_of x).place ≡ Commits (record_of own) → Steps (shown w) a (shown t) r
steps_committing w t a x y r own got on xs len hs ends = steps_on w t a x y r got on xs len
    (ap (map record_of) hs ∙ map_record w.history.items own ∙ sym (ap (listed (map record_of w.history.items)) ends))

pub commits_writer : (a : ℕ) (x : Actor) (calls : List machine.Call) → x.place ≡ First → 0 < length x.writes.entries
    → calls ≡ map call_of x.calls.items → step_end a (actor_of x) (actor_of x).place
    ≡ Commits (record { actor = a; number = x.wv; writer = true; calls = calls })
commits_writer a x calls at_p some is =
    ap (λ (p : Place). step_end a (actor_of x) (place_of x.reads.entries x.writes.entries p)) at_p ∙ by_writes x.writes.entries some
    ∙ ap (λ (z : List machine.Call). Commits (record { actor = a; number = x.wv; writer = true; calls = z })) (sym is)
  where
    by_writes : (es : Entries) → 0 < length es → first_step_end a (actor_of x) es
        ≡ Commits (record { actor = a; number = x.wv; writer = true; calls = map call_of x.calls.items })
    by_writes [] h = absurd (omega (arith, h))
    by_writes (e ∷ es) h = refl

pub commits_reader : (a : ℕ) (x : Actor) (calls : List machine.Call) → x.place ≡ Close → calls ≡ map call_of x.calls.items
    → step_end a (actor_of x) (actor_of x).place ≡ Commits (record { actor = a; number = x.rv; writer = false; calls = calls })
commits_reader a x calls at_p is =
    ap (λ (p : Place). step_end a (actor_of x) (place_of x.reads.entries x.writes.entries p)) at_p
    ∙ ap (λ (z : List machine.Call). Commits (record { actor = a; number = x.rv; writer = false; calls = z })) (sym is)

-- counts of places, after one actor has changed
total-set : (f : Place → ℕ) (xs : List Actor) (a : ℕ) (x y : Actor) → slice_get xs a ≡ Some x → total f (slice_set xs a y) + f x.place
    ≡ total f xs + f y.place
total-set f [] a x y h = absurd (let z : None ≡ Some x = h in cc)
total-set f (z ∷ zs) zero x y h = (let q : Some z ≡ Some x = h in let e : z ≡ x = cc in let g : f z.place ≡ f x.place = ap
    (λ (u : Actor). f u.place) e in omega (arith, g))
total-set f (z ∷ zs) (suc a) x y h = omega (arith, total-set f zs a x y h)

total_le : (f : Place → ℕ) → ((p : Place) → f p ≤ 1) → (xs : List Actor) → total f xs ≤ length xs
total_le f one [] = omega arith
total_le f one (x ∷ xs) = omega (arith, one x.place, total_le f one xs)

owed_one : (p : Place) → owed p ≤ 1
owed_one Open = omega arith
owed_one (Look l) = omega arith
owed_one (Fetch l k) = omega arith
owed_one (Again l k v) = omega arith
owed_one (Lock i) = omega arith
owed_one (Take l k i) = omega arith
owed_one Idle = omega arith
owed_one Begin = omega arith
owed_one (Check i) = omega arith
owed_one Broken = omega arith
owed_one First = omega arith
owed_one (Store i) = omega arith
owed_one Release = omega arith
owed_one Undo = omega arith
owed_one Leave = omega arith
owed_one Close = omega arith

length-set : (xs : List Actor) (i : ℕ) (v : Actor) → length (slice_set xs i v) ≡ length xs
length-set [] i v = refl
length-set (z ∷ zs) zero v = refl
length-set (z ∷ zs) (suc i) v = ap suc (length-set zs i v)

pub fits_here : (w : Machine) (a : ℕ) (x : Actor) → Sound w → slice_get w.actors.items a ≡ Some x → Fits (length w.cells.locks.items) x
fits_here w a x v got = All-at (Fits (length w.cells.locks.items)) w.actors.items a x v.actors got

-- the numbers that an actor may still take are among those of all
pub owed_here : (w : Machine) (a : ℕ) (x : Actor) → Sound w → slice_get w.actors.items a ≡ Some x → w.cells.clock + owed x.place < 2 ^ 63
owed_here w a x v got = omega (arith, v.clock, among w.actors.items a got)
  where
    among : (xs : List Actor) (i : ℕ) → slice_get xs i ≡ Some x → owed x.place ≤ total owed xs
    among [] i h = absurd (let z : None ≡ Some x = h in cc)
    among (z ∷ zs) zero h = (let q : Some z ≡ Some x = h in let e : z ≡ x = cc in let g : owed z.place ≡ owed x.place =
        ap (λ (u : Actor). owed u.place) e in omega (arith, g))
    among (z ∷ zs) (suc i) h = omega (arith, among zs i h)

-- a step keeps the bounds: it takes no number that was not owed, and adds no record that was not to come
pub sound_next : (w t : Machine) (a : ℕ) (x y : Actor) → Sound w → slice_get w.actors.items a ≡ Some x
    → Fits (length w.cells.locks.items) y → HaveLength w.cells t.cells → Grows w.cells x t.cells y
    → t.actors.items ≡ slice_set w.actors.items a y → vec_len t.history + due y.place ≤ vec_len w.history + due x.place
    → vec_capacity w.history ≤ vec_capacity t.history → Sound t
sound_next w t a x y v got fits like grows xs dues most =
    let owes = total-set owed w.actors.items a x y got in
    let dued = total-set due w.actors.items a x y got in
    let every = ap (total owed) xs in
    let all = ap (total due) xs in
    record {
      same = like.1 ∙ v.same ∙ sym like.0;
      seats = ap (λ (z : List Actor). length z) xs ∙ length-set w.actors.items a y ∙ v.seats;
      actors = subst (λ (n : ℕ). All (Fits n) t.actors.items) (sym like.0)
          (subst (All (Fits (length w.cells.locks.items))) (sym xs)
          (All-set (Fits (length w.cells.locks.items)) w.actors.items a y fits v.actors));
      clock = elim grows [
        | inl fewer ↦ omega (arith, v.clock, owes, every, fewer)
        | inr below ↦ (let few = total_le owed owed_one (slice_set w.actors.items a y) in
            let seats = length-set w.actors.items a y in omega (arith, few, seats, v.seats, every, below.0, below.1))
      ];
      room = omega (arith, v.room, dued, all, dues, most);
    }

-- there is room for a record that is next
pub due_here : (w : Machine) (a : ℕ) (x : Actor) → slice_get w.actors.items a ≡ Some x → Sound w → due x.place ≡ 1
    → vec_len w.history < vec_capacity w.history
due_here w a x got v one = omega (arith, v.room, among w.actors.items a got, one)
  where
    among : (xs : List Actor) (i : ℕ) → slice_get xs i ≡ Some x → due x.place ≤ total due xs
    among [] i h = absurd (let z : None ≡ Some x = h in cc)
    among (z ∷ zs) zero h = (let q : Some z ≡ Some x = h in let e : z ≡ x = cc in let g : due z.place ≡ due x.place =
        ap (λ (u : Actor). due u.place) e in omega (arith, g))
    among (z ∷ zs) (suc i) h = omega (arith, among zs i h)

-- events and worlds
run_append : (es : List Event) (e : Event) (s : World) → run (es ++ e ∷ []) s ≡ happens (run es s) e
run_append [] e s = refl
run_append (d ∷ es) e s = run_append es e (happens s d)

pub reached_ask : (v u : Shown) (a : ℕ) (q : Request) (answer : Option WordAnswer) → Reached v → Asks v a q u answer → Reached u
reached_ask v u a q answer h st = record {
  clock = h.clock;
  opening = h.opening;
  events = h.events ++ Ask a q ∷ [];
  shows = subst (Shows u) (sym (run_append h.events (Ask a q) (start h.clock h.opening)))
      (st (run h.events (start h.clock h.opening)) h.shows).0;
}

pub reached_step : (v u : Shown) (a : ℕ) (r : Answer) → Reached v → Steps v a u r → Reached u
reached_step v u a r h st = record {
  clock = h.clock;
  opening = h.opening;
  events = h.events ++ Step a ∷ [];
  shows = subst (Shows u) (sym (run_append h.events (Step a) (start h.clock h.opening)))
      (st (run h.events (start h.clock h.opening)) h.shows).0;
}

-- a request that is answered is one event, and one that is refused none
pub reached_asked : (v u : Shown) (a : ℕ) (q : Request) (r : Answer) → Reached v → IfOk r (λ answer. Asks v a q u answer)
    → OnErr r (u ≡ v) → Reached u
reached_asked v u a q (Ok answer) h asked same = reached_ask v u a q answer h asked
reached_asked v u a q (Err e) h asked same = subst Reached (sym same) h

-- who has no seat takes no step
pub beyond_steps : (v : Shown) (a : ℕ) → length v.actors ≤ a → Steps v a v (Err refusal.NoTransaction)
beyond_steps v a out s h =
    let idle : s.actors a ≡ blank = h.actors a ∙ past v.actors a out in (
      subst (Shows v) (sym (ap (λ (z : machine.Actor). step s a z z.place) idle)) h,
      ap result_of (sym (ap (λ (z : machine.Actor). notice s z z.place) idle)),
      (refl, sym (ap (λ (z : machine.Actor). listed v.history (step_end a z z.place)) idle)),
    )
  where
    past : (xs : List machine.Actor) (i : ℕ) → length xs ≤ i → get_or xs i blank ≡ blank
    past [] zero h = refl
    past [] (suc i) h = refl
    past (x ∷ xs) zero h = absurd (omega (arith, h))
    past (x ∷ xs) (suc i) h = past xs i (omega (arith, h))

-- a request changes its actor's own record alone
pub asks_moved : (w t : Machine) (a : ℕ) (x y : Actor) (q : Request) (answer : Option WordAnswer) → slice_get w.actors.items a ≡ Some x
    → shown t ≡ shown (moved w a y)
    → actor_of y ≡ ask (actor_of x) (actor_of x).place q → Ok answer ≡ result_of (reply (actor_of x) (actor_of x).place q)
    → Asks (shown w) a q (shown t) answer
asks_moved w t a x y q answer got same own says s h =
    let e = actor_at w s a x h got in (
      subst (λ (v : Shown). Shows v (happens s (Ask a q))) (sym same)
          (subst (Shows (shown (moved w a y))) (ap (now s a) own ∙ sym (ap (λ (z : machine.Actor). now s a (ask z z.place q)) e))
          (shows_moved w s a x y h got)),
      says ∙ ap (λ (z : machine.Actor). result_of (reply z z.place q)) (sym e),
      (ap (λ (v : Shown). length v.values) same, ap (λ (v : Shown). v.history) same),
    )

-- a refused request, which may have made room, shows what it showed
pub shown_same : (w : Machine) (a : ℕ) (x y : Actor) → slice_get w.actors.items a ≡ Some x → actor_of y ≡ actor_of x → shown (moved w a y)
    ≡ shown w
shown_same w a x y got same =
    ap (λ (z : List machine.Actor). record {
      clock = w.cells.clock;
      locks = w.cells.locks.items;
      values = w.cells.values.items;
      actors = z;
      history = map record_of w.history.items;
    }) (go w.actors.items a got)
  where
    go : (xs : List Actor) (i : ℕ) → slice_get xs i ≡ Some x → map actor_of (slice_set xs i y) ≡ map actor_of xs
    go [] i h = refl
    go (z ∷ zs) zero h = ap (λ (u : machine.Actor). u ∷ map actor_of zs)
        (same ∙ ap actor_of (let q : Some x ≡ Some z = sym h in let r : x ≡ z = cc in r))
    go (z ∷ zs) (suc i) h = ap (λ (us : List machine.Actor). actor_of z ∷ us) (go zs i h)

due_one : (p : Place) → due p ≤ 1
due_one Open = omega arith
due_one (Look l) = omega arith
due_one (Fetch l k) = omega arith
due_one (Again l k v) = omega arith
due_one (Lock i) = omega arith
due_one (Take l k i) = omega arith
due_one Idle = omega arith
due_one Begin = omega arith
due_one (Check i) = omega arith
due_one Broken = omega arith
due_one First = omega arith
due_one (Store i) = omega arith
due_one Release = omega arith
due_one Undo = omega arith
due_one Leave = omega arith
due_one Close = omega arith

is_begin : (q : Request) → (opens q ≡ true) ⊎ (opens q ≡ false)
is_begin q = cases_Bool (opens q)

-- a begin makes room for a record of each actor, and no other request makes one due
pub sound_asked : (w t : Machine) (a : ℕ) (x y : Actor) (q : Request) → Sound w → slice_get w.actors.items a ≡ Some x
    → (Fits (length w.cells.locks.items) x → Fits (length w.cells.locks.items) y) → owed y.place ≤ owed x.place
    → (opens q ≡ false → due y.place ≤ due x.place) → (opens q ≡ true → vec_len t.history + SEATS ≤ vec_capacity t.history) → t.cells.clock
    ≡ w.cells.clock → t.cells.locks.items ≡ w.cells.locks.items → t.cells.values.items ≡ w.cells.values.items
    → t.actors.items ≡ slice_set w.actors.items a y → vec_len t.history ≡ vec_len w.history
    → vec_capacity w.history ≤ vec_capacity t.history → Sound t
sound_asked w t a x y q v got fits owe dues room_ c ls vs xs len most =
    let n : length t.cells.locks.items ≡ length w.cells.locks.items = ap (λ (z : List ℕ). length z) ls in
    let m : length t.actors.items ≡ SEATS = ap (λ (z : List Actor). length z) xs ∙ length-set w.actors.items a y ∙ v.seats in
    let d : total due t.actors.items ≡ total due (slice_set w.actors.items a y) = ap (total due) xs in
    record {
      same = ap (λ (z : List ℕ). length z) vs ∙ v.same ∙ sym n;
      seats = m;
      actors = subst (λ (k : ℕ). All (Fits k) t.actors.items) (sym n) (subst (All (Fits (length w.cells.locks.items))) (sym xs)
          (All-set (Fits (length w.cells.locks.items)) w.actors.items a y
          (fits (All-at (Fits (length w.cells.locks.items)) w.actors.items a x v.actors got)) v.actors));
      clock = (let q = ap (total owed) xs in omega (arith, v.clock, total-set owed w.actors.items a x y got, owe, c, q));
      room = elim (is_begin q) [
        | inl e ↦ omega (arith, room_ e, total_le due due_one t.actors.items, m)
        | inr ne ↦ omega (arith, v.room, total-set due w.actors.items a x y got, dues ne, d, len, most)
      ];
    }

-- more room for records
pub sound_room : (w t : Machine) → Sound w → t.cells.clock ≡ w.cells.clock → t.cells.locks.items ≡ w.cells.locks.items
    → t.cells.values.items ≡ w.cells.values.items
    → t.actors.items ≡ w.actors.items → vec_len t.history ≡ vec_len w.history → vec_capacity w.history ≤ vec_capacity t.history → Sound t
sound_room w t v c ls vs xs len room_ =
    let n : length t.cells.locks.items ≡ length w.cells.locks.items = ap (λ (z : List ℕ). length z) ls in
    record {
      same = ap (λ (z : List ℕ). length z) vs ∙ v.same ∙ sym n;
      seats = ap (λ (z : List Actor). length z) xs ∙ v.seats;
      actors = subst (λ (k : ℕ). All (Fits k) t.actors.items) (sym n) (subst (All (Fits (length w.cells.locks.items))) (sym xs) v.actors);
      clock = (let q = ap (total owed) xs in omega (arith, v.clock, c, q));
      room = (let q = ap (total due) xs in omega (arith, v.room, len, room_, q));
    }
