-- Each own step of a request answers it or brings it nearer to its answer: the measure of its stage and of its actor's record falls. One
-- lemma for each function of the definition that a step leads to; what the machine's actor is after the step is known from the lemmas on
-- actions.
use Rattle.std.proofs.Common.{◌≡◌, ℕ, zero, suc, ◌+◌, ◌*◌, ◌<◌, ◌≤◌, Bool, true, false, cond, ◌&&◌, List, [], ◌∷◌, ◌++◌, length, filter}
use Rattle.std.proofs.Common.{Option, Some, None, inl, inr, refl, sym, ◌∙◌, ap, subst, arith, eqb}
use Rattle.std.specs.Prelude.{nat_lt, nat_le, not, if◌then◌else◌}
use Rattle.std.proofs.lemmas.Bool.{cond-true, cond-false, cond_both}
use Rattle.vlock_word.specs.declared.lock_word.LockWord.{LockWord}
use Rattle.vlock_word.specs.declared.lock_word.LockWord.TheVariants.{Free, Locked}
use Rattle.vlock_word.specs.LockWord.{bits}
use Rattle.tx_sets.specs.Entries.{Entries, lookup, locations}
use Rattle.tx_machine.specs.Actor as machine
use Rattle.tx_machine.specs.Actor.{Place, Actor, goes}
use Rattle.tx_machine.specs.Requests as word
use Rattle.tx_machine.specs.World as world
use Rattle.tx_machine.specs.World.{World as Words, plan}
use Rattle.tx_machine.specs.Progress.{steps_left}
use Rattle.tx_machine.specs.Notices as told
use Rattle.tx_machine.specs.Notices.{notice, look_notice, again_notice, lock_notice, take_notice, check_notice, when_none_left}
use Rattle.tx_machine.specs.Notices.{last_notice}
use Rattle.tx_machine.proofs.Sets.{put-same}
use Rattle.tx_machine.proofs.Invariant.{IsSomeEntry, PlaceOk}
use Rattle.seq_model.specs.declared.refusal.Refusal.{Refusal}
use Rattle.seq_model.specs.declared.refusal.Refusal.TheVariants as refusal
use Rattle.seq_model.specs.declared.call.Op.{Op}
use Rattle.seq_model.specs.declared.call.Op.TheVariants.{Read, Write}
use Rattle.seq_model.specs.declared.held.Held.{Held}
use Rattle.seq_model.specs.declared.event.Event.{Event}
use Rattle.seq_model.specs.declared.event.Event.TheVariants.{Ask, Step}
use Rattle.seq_model.specs.declared.event.Request.{Request}
use Rattle.seq_model.specs.declared.event.Request.TheVariants as request
use Rattle.seq_model.specs.declared.limits.TheConstants.{CALL_LIMIT}
use Rattle.tx_machine.specs.Boosted.{TakeGate, PutGate, GoHome, is_none, is_open, is_committing, copied}
use Rattle.replay_log.specs.Contents.{Block, CollectionCall, CallWithOutcome, HaveStripes, home_of, is_plain}
use Rattle.replay_log.specs.Contents.{content}
use Rattle.replay_log.specs.Worlds.{World, Seat, Stage, Idle, Beginning, Open, Locking, Releasing, Closing, Cancelling, Leaving, Reading}
use Rattle.replay_log.specs.Worlds.{Trying, Copying, Loading, Gating, Ready, Storing, Homing, Returning, After, new_in, has_room}
use Rattle.replay_log.specs.Worlds.{with_editions, at_stage, because, seated, acted, asks, moves, actor_of, is_leaving, cancels, gives_up}
use Rattle.replay_log.specs.Worlds.{is_fresh, judges, loads, answers, has_read, has_tried, has_loaded, takes_gates, all_of, distinct}
use Rattle.replay_log.specs.Worlds.{has_locked, goes_home, has_stored, has_released, has_cancelled, has_begun, with_piece}
use Rattle.replay_log.specs.Worlds.{outcome_at, sized_by, recorded, why, step_at, reads, if_allowed, calls_on, more_tries, ask_op, commits}
use Rattle.replay_log.specs.Worlds.{ask_at, happens, run, opened}
use Rattle.replay_log.proofs.CountLemmas.{length-locations, filter_shorter, read_fewer, homes_few, locations_of, locations-cons, call_few}
use Rattle.replay_log.proofs.EventLemmas.{run_linked, opened_linked}
use Rattle.replay_log.specs.Pieces.{piece_at, covers_at}
use Rattle.replay_log.specs.WorldProgress as measure
use Rattle.replay_log.specs.WorldProgress.{AreSmall, unlocked, whose, IsQuiet, left_of, Nears}
use Rattle.replay_log.proofs.RequestLemmas.{happens_by, run_by}
use Rattle.tx_machine.specs.Content.{has}
use Rattle.replay_log.proofs.ActionLemmas.{mine, without_gate, exchanges, learns}
use Rattle.replay_log.proofs.PlaceLemmas.{SameTx, AfterRead, read_after, AfterLock, lock_after, AfterStore, store_after, first_after}
use Rattle.replay_log.proofs.PlaceLemmas.{reading_quiet, locking_quiet, storing_quiet, leaving_rests}
use Rattle.replay_log.proofs.StageLemmas.{first_has, at_move, tells, gate_tried, gate_put, at_release, at_home, gates_left, first_stored}
use Rattle.replay_log.proofs.SeatLemmas.{Copy, AtReading, AtLocking, AtStoring, CanLeave, LeftAt, left_at, gates_of, StageOk, Linked, At}
use Rattle.replay_log.proofs.SeatLemmas.{at_of, at_ask}

-- ---- what a step leaves of the measure of its place
abbrev pub NearsRead : ℕ → Actor → told.Notice → Type 0
NearsRead m z told.Quiet = steps_left z z.place < m
NearsRead m z n = Unit {0}

look_nears : (l : ℕ) (y : Actor) (found : LockWord) → NearsRead 3 (machine.seen y l found) (look_notice y.rv l found)
look_nears l y (Free j) =
    elim (nat_le j y.rv) as (λ b. NearsRead 3 (cond b (goes y (machine.Fetch l j)) (goes y machine.Undo))
    (cond b told.Quiet (told.Moved l (bits (Free j))))) [ true ↦ omega arith | false ↦ tt ]
look_nears l y (Locked j) = tt

again_nears : (l i v m : ℕ) (y : Actor) (found : LockWord) → NearsRead m (machine.seen_again y l i v found) (again_notice l i v found)
again_nears l i v m y (Free j) =
    elim (eqb j i) as (λ b. NearsRead m (cond b (machine.has_read y l v) (goes y machine.Undo))
    (cond b (told.Number v) (told.Moved l (bits (Free j))))) [ true ↦ tt | false ↦ tt ]
again_nears l i v m y (Locked j) = tt

pub read_nears : (s : Words) (y : Actor) (l : ℕ) (p : Place) → AtReading l p
    → (0 < steps_left y p) × NearsRead (steps_left y p) (learns s y (plan y p)) (notice s y p)
read_nears s y l (machine.Look k) h = (omega arith, look_nears k y (s.locks k))
read_nears s y l (machine.Fetch k j) h = (omega arith, omega arith)
read_nears s y l (machine.Again k j v) h = (omega arith, again_nears k j v 1 y (s.locks k))
read_nears s y l p h = absurd h

abbrev pub lock_left : Actor → Place → ℕ
lock_left y p = steps_left y p + unlocked p + length y.held + 66 * length y.writes + 3

abbrev pub NearsLock : ℕ → Actor → told.Notice → Type 0
NearsLock m z told.Quiet = lock_left z z.place < m
NearsLock m z (told.LockedAt wv) = length z.held + 66 * length z.writes + 3 < m
NearsLock m z n = length z.held + 2 < m

length-push : {A : Type 0} (xs : List A) (x : A) → length (xs ++ x ∷ []) ≡ length xs + 1
length-push [] x = refl
length-push (y ∷ xs) x = let e = length-push xs x in omega (arith, e)

stamped_nears : (y : Actor) (number : ℕ) (ls : List ℕ) → length ls ≤ length y.reads → NearsLock (lock_left y (machine.Lock []))
    (record y { place = machine.Check ls; wv = number }) (when_none_left ls (told.LockedAt number))
stamped_nears y number [] few = omega arith
stamped_nears y number (l ∷ ls) few = omega (arith, few)

-- what is to be checked is no longer than the read set
few_to_check : (y : Actor) (number : ℕ) → length (machine.to_check y number) ≤ length y.reads
few_to_check y number =
    let all = length-locations y.reads in
    cond_both (eqb (y.rv + 1) number) [] (locations y.reads) (λ ls. length ls ≤ length y.reads) (λ _. omega arith) (λ _. omega (arith, all))

to_lock_nears : (y : Actor) (l : ℕ) (ls : List ℕ) (found : LockWord) → NearsLock (lock_left y (machine.Lock (l ∷ ls)))
    (machine.seen_to_lock y l ls found)
    (lock_notice l found)
to_lock_nears y l ls (Free k) = omega arith
to_lock_nears y l ls (Locked k) = omega arith

take_nears : (y : Actor) (l k : ℕ) (ls : List ℕ) (found : LockWord) → NearsLock (lock_left y (machine.Take l k ls))
    (exchanges k (machine.taken y l k ls) (goes y machine.Broken) found) (take_notice l k found)
take_nears y l k ls (Free j) =
    elim (eqb j k) as (λ b. NearsLock (lock_left y (machine.Take l k ls)) (cond b (machine.taken y l k ls) (goes y machine.Broken))
    (cond b told.Quiet (told.Busy l (bits (Free j))))) [
      | true ↦ let q = length-push y.held (l, k) in omega (arith, q)
      | false ↦ omega arith
    ]
take_nears y l k ls (Locked j) = omega arith

passed_nears : (y : Actor) (l : ℕ) (ls : List ℕ) → NearsLock (lock_left y (machine.Check (l ∷ ls))) (goes y (machine.Check ls))
    (when_none_left ls (told.LockedAt y.wv))
passed_nears y l [] = omega arith
passed_nears y l (k ∷ ls) = omega arith

check_nears : (y : Actor) (l : ℕ) (ls : List ℕ) (found : LockWord) (own : Option ℕ)
    → NearsLock (lock_left y (machine.Check (l ∷ ls))) (machine.seen_in_check y ls found own) (check_notice y.rv y.wv l ls found own)
check_nears y l ls (Free k) own =
    elim (nat_le k y.rv) as (λ b. NearsLock (lock_left y (machine.Check (l ∷ ls)))
    (cond b (goes y (machine.Check ls)) (goes y machine.Broken))
    (cond b (when_none_left ls (told.LockedAt y.wv)) (told.Invalid l (bits (Free k))))) [
      | true ↦ passed_nears y l ls
      | false ↦ omega arith
    ]
check_nears y l ls (Locked k) (Some value) =
    elim (nat_le k y.rv) as (λ b. NearsLock (lock_left y (machine.Check (l ∷ ls)))
    (cond b (goes y (machine.Check ls)) (goes y machine.Broken))
    (cond b (when_none_left ls (told.LockedAt y.wv)) (told.Invalid l (bits (Locked k))))) [
      | true ↦ passed_nears y l ls
      | false ↦ omega arith
    ]
check_nears y l ls (Locked k) None = omega arith

pub lock_nears : (s : Words) (y : Actor) (p : Place) → AtLocking p → NearsLock (lock_left y p) (learns s y (plan y p)) (notice s y p)
lock_nears s y (machine.Lock []) h = stamped_nears y (s.clock + 1) (machine.to_check y (s.clock + 1)) (few_to_check y (s.clock + 1))
lock_nears s y (machine.Lock (l ∷ ls)) h = to_lock_nears y l ls (s.locks l)
lock_nears s y (machine.Take l k ls) h = take_nears y l k ls (s.locks l)
lock_nears s y (machine.Check (l ∷ ls)) h = check_nears y l ls (s.locks l) (lookup y.writes l)
lock_nears s y p h = absurd h

read_asked : (y : Actor) (l : ℕ) (own : Option ℕ) → (steps_left (word.read y l own None) (word.read y l own None).place ≤ 3)
    × ((word.read y l own None).reads ≡ y.reads)
read_asked y l (Some v) = (omega arith, refl)
read_asked y l None = (omega arith, refl)

store_nears : (s : Words) (y : Actor) (p : Place) → AtStoring p
    → (0 < steps_left y p) × (told.Quiet ≡ notice s y p → steps_left (learns s y (plan y p)) (learns s y (plan y p)).place < steps_left y p)
    × ((learns s y (plan y p)).held ≡ y.held)
store_nears s y (machine.Store (l ∷ ls)) h = (omega arith, λ e. omega arith, refl)
store_nears s y p h = absurd h

first_nears : (s : Words) (y : Actor) (d : ℕ × ℕ) (es : Entries)
    → (steps_left (learns s y (world.first_store y (d ∷ es))) (learns s y (world.first_store y (d ∷ es))).place < length (d ∷ es))
    × ((learns s y (world.first_store y (d ∷ es))).held ≡ y.held)
first_nears s y d es = let e = length-locations es in (omega (arith, e), refl)

pub reading_held : (s : Words) (y : Actor) (l : ℕ) (p : Place) → AtReading l p → PlaceOk s y p → y.held ≡ []
reading_held s y l (machine.Look k) h pl = pl.0
reading_held s y l (machine.Fetch k j) h pl = pl.0.0
reading_held s y l (machine.Again k j v) h pl = pl.0.0
reading_held s y l p h pl = absurd h

pub why_answers : (V : Type 0) (a : ℕ) (cause : Option Refusal) → IsQuiet {V = V} (why a cause) → ⊥
why_answers V a None q = q
why_answers V a (Some c) q = q

read_at_most : (y : Actor) (l : ℕ) (own seen : Option ℕ) → steps_left (word.read y l own seen) (word.read y l own seen).place ≤ 3
read_at_most y l (Some v) seen = omega arith
read_at_most y l None (Some v) = omega arith
read_at_most y l None None = omega arith

module _ {V : Type 0} where
  -- ---- ends
  seated_nears : (u : World V) (a : ℕ) (x : Seat V) (y : Actor) (m : ℕ) → u.boosted.words.actors a ≡ y → measure.left_at x.stage y < m
      → left_of (seated u a x) a < m
  seated_nears u a x y m e h =
      subst (λ (q : Seat V). measure.left_at q.stage (u.boosted.words.actors a) < m) (sym (put-same u.seats a x))
      (subst (λ (q : Actor). measure.left_at x.stage q < m) (sym e) h)

  pub cancels_near : (w : World V) (a : ℕ) (x : Seat V) (y : Actor) (z : Copy V) (g : ℕ → Bool) (m : ℕ) → At w a y z g → CanLeave y.place
      → length y.held + 1 < m → left_of (cancels w a x) a < m
  cancels_near w a x y z g m k leave h =
      let q = left_at y y.place refl leave in
      let y1 = word.ask y y.place word.AskCancel in
      let y2 = word.ask y1 q.0 word.AskAbort in
      let w1 = acted w (asks a word.AskCancel ∷ []) in
      let w2 = acted w1 (asks a word.AskAbort ∷ []) in
      let k2 : At w2 a y2 z g = at_ask w1 a y1 z g q.0 word.AskAbort (at_ask w a y z g y.place word.AskCancel k refl tt) q.1 tt in
      let l : LeftAt y y2 = q.2 in
      let place : (w2.boosted.words.actors a).place ≡ y2.place = ap (λ (u : Actor). u.place) k2.own.actor in
      let same = ap length l.held in
      elim l.place [
        | inl leaving ↦
            subst (λ p. left_of (seated w2 a (at_stage x (if is_leaving p then Leaving else Cancelling))) a < m) (sym (place ∙ leaving))
            (seated_nears w2 a (at_stage x Leaving) y2 m k2.own.actor (omega (arith, h)))
        | inr undo ↦
            subst (λ p. left_of (seated w2 a (at_stage x (if is_leaving p then Leaving else Cancelling))) a < m) (sym (place ∙ undo.0))
            (seated_nears w2 a (at_stage x Cancelling) y2 m k2.own.actor (omega (arith, h, same)))
      ]

  pub gives_up_nears : (w : World V) (a : ℕ) (x : Seat V) (y : Actor) (z : Copy V) (g : ℕ → Bool) (ks : List ℕ) (m : ℕ) → At w a y z g
      → CanLeave y.place
      → length ks + length y.held + 2 < m → Nears a m (gives_up w a x ks)
  gives_up_nears w a x y z g [] m k leave h q = cancels_near w a x y z g m k leave (omega (arith, h))
  gives_up_nears w a x y z g (i ∷ ks) m k leave h q = seated_nears w a (at_stage x (Returning (i ∷ ks))) y m k.own.actor (omega (arith, h))

  choose_near : (a m : ℕ) (b : Bool) (u v : After V) → (b ≡ true → Nears a m u) → (b ≡ false → Nears a m v) → Nears a m (cond b u v)
  choose_near a m true u v h g = h refl
  choose_near a m false u v h g = g refl

  same_nears : (u : World V) (a : ℕ) (x : Seat V) (y : Actor) (st : Stage V) (m : ℕ) → u.boosted.words.actors a ≡ y → u.seats a ≡ x
      → x.stage ≡ st
      → measure.left_at st y < m → left_of u a < m
  same_nears u a x y st m e seat at h =
      subst (λ (q : Seat V). measure.left_at q.stage (u.boosted.words.actors a) < m) (sym seat)
      (subst (λ (q : Stage V). measure.left_at q (u.boosted.words.actors a) < m) (sym at)
      (subst (λ (q : Actor). measure.left_at st q < m) (sym e) h))

  -- ---- reads and loads
  has_read_nears : (u : World V) (a : ℕ) (x : Seat V) (y y2 : Actor) (z : Copy V) (g : ℕ → Bool) (l m : ℕ) (n : told.Notice)
      → At u a y2 z g → u.seats a ≡ x
      → x.stage ≡ Reading l → y.held ≡ [] → 0 < m
      → AfterRead l y y2 n → NearsRead m y2 n → Nears a (m + 1) (has_read u a x l n)
  has_read_nears u a x y y2 z g l m told.Quiet k seat st none pos h near q = same_nears u a x y2 (Reading l) (m + 1) k.own.actor seat st
      (omega (arith, near))
  has_read_nears u a x y y2 z g l m (told.Number v) k seat st none pos h near q = absurd q
  has_read_nears u a x y y2 z g l m (told.Moved i found) k seat st none pos h near q =
      let e = ap length none in
      let f = ap (λ (v : Actor). length v.held) h in
      cancels_near u a (because x (refusal.Moved i found)) y2 z g (m + 1) k (subst (λ (v : Actor). CanLeave v.place) (sym h) tt)
      (omega (arith, e, f, pos))
  has_read_nears u a x y y2 z g l m n k seat st none pos h near q = absurd h

  fresh_nears : (u : World V) (a : ℕ) (x : Seat V) (y : Actor) (z : Copy V) (g : ℕ → Bool) (d : ℕ × ℕ) (v m : ℕ) (next : After V)
      → At u a y z g
      → y.place ≡ machine.Open → length y.held + 1 < m → Nears a m next
      → Nears a m (is_fresh u a x d v next)
  fresh_nears u a x y z g d v m next k e h near =
      choose_near a m (eqb d.1 v) next _ (λ _. near)
      (λ _ q. cancels_near u a (because x (refusal.Stale d.0 d.1 v)) y z g m k (subst CanLeave (sym e) tt) h)

  judges_nears : (u : World V) (a : ℕ) (x : Seat V) (y : Actor) (z : Copy V) (g : ℕ
      → Bool) (o : CallWithOutcome V) (d : ℕ × ℕ) (es : Entries)
      (m : ℕ)
      (next : After V) (r : Option ℕ) → At u a y z g → y.place ≡ machine.Open
      → length y.held + 1 < m → 3 * length (new_in y.reads (locations (d ∷ es))) + 1 < m → lookup y.reads d.0 ≡ r
      → (3 * length (new_in y.reads (locations es)) + 1 < m → Nears a m next) → Nears a m (judges u a x o d es next r)
  judges_nears u a x y z g o d es m next None k e held h is near q =
      let y2 = word.ask y machine.Open (word.AskRead d.0) in
      let as_read : y2 ≡ word.read y d.0 (lookup y.writes d.0) None = ap (word.read y d.0 (lookup y.writes d.0)) is in
      let b = read_asked y d.0 (lookup y.writes d.0) in
      let k2 = at_ask u a y z g machine.Open (word.AskRead d.0) k e tt in
      let new = ap (λ ls. length (new_in y.reads ls)) (locations-cons d es) in
      let one = ap length (cond-true (is_none (lookup y.reads d.0)) (d.0 ∷ new_in y.reads (locations es)) (new_in y.reads (locations es))
      (ap is_none is))
      in
      let reads = ap (λ (rs : Entries). length (new_in rs (locations es))) b.1 in
      let few = b.0 in
      seated_nears (acted u (asks a (word.AskRead d.0) ∷ [])) a (at_stage x (Loading o (d ∷ es)))
      (word.read y d.0 (lookup y.writes d.0) None) m
      (k2.own.actor ∙ as_read) (omega (arith, few, reads, one, new, h))
  judges_nears u a x y z g o d es m next (Some v) k e held h is near q =
      let new = ap (λ ls. length (new_in y.reads ls)) (locations-cons d es) in
      let none = ap length (cond-false (is_none (lookup y.reads d.0)) (d.0 ∷ new_in y.reads (locations es))
      (new_in y.reads (locations es)) (ap is_none is))
      in
      fresh_nears u a x y z g d v m next k e held (near (omega (arith, new, none, h))) q

  loads_nears : (es : Entries) (u : World V) (a : ℕ) (x : Seat V) (y : Actor) (z : Copy V) (g : ℕ → Bool) (o : CallWithOutcome V) (m : ℕ)
      → At u a y z g
      → y.place ≡ machine.Open → length y.held + 1 < m
      → 3 * length (new_in y.reads (locations es)) + 1 < m → Nears a m (loads u a x o es)
  loads_nears [] u a x y z g o m k e held h q = absurd q
  loads_nears (d ∷ es) u a x y z g o m k e held h q =
      judges_nears u a x y z g o d es m (loads u a x o es) (lookup (actor_of u a).reads d.0) k e held h
      (ap (λ (v : Actor). lookup v.reads d.0) (sym k.own.actor))
      (λ less. loads_nears es u a x y z g o m k e held less) q

  has_loaded_nears : (u : World V) (a : ℕ) (x : Seat V) (y y2 : Actor) (z : Copy V) (g : ℕ → Bool) (o : CallWithOutcome V) (d : ℕ × ℕ)
      (es : Entries) (m : ℕ)
      (n : told.Notice) → At u a y2 z g → u.seats a ≡ x
      → x.stage ≡ Loading o (d ∷ es) → y.held ≡ [] → 0 < m → AfterRead d.0 y y2 n → NearsRead m y2 n
      → Nears a (m + 3 * length (new_in y.reads (locations es)) + 1) (has_loaded u a x o d es n)
  has_loaded_nears u a x y y2 z g o d es m told.Quiet k seat st none pos h near q =
      let t : SameTx y y2 = h.1 in
      let e = ap (λ (rs : Entries). length (new_in rs (locations es))) t.reads in
      same_nears u a x y2 (Loading o (d ∷ es)) (m + 3 * length (new_in y.reads (locations es)) + 1) k.own.actor seat st
      (omega (arith, near, e))
  has_loaded_nears u a x y y2 z g o d es m (told.Number v) k seat st none pos h near q =
      let y3 = machine.has_read y d.0 v in
      let k3 : At u a y3 z g = subst (λ (w : Actor). At u a w z g) h k in
      let e = ap length none in
      let less = read_fewer y.declared y.reads d.0 v (locations es) in
      let top = m + 3 * length (new_in y.reads (locations es)) + 1 in
      fresh_nears u a x y3 z g d v top (loads u a x o es) k3 refl (omega (arith, e, pos))
      (loads_nears es u a x y3 z g o top k3 refl (omega (arith, e, pos)) (omega (arith, less, pos))) q
  has_loaded_nears u a x y y2 z g o d es m (told.Moved i found) k seat st none pos h near q =
      let e = ap length none in
      let f = ap (λ (v : Actor). length v.held) h in
      cancels_near u a (because x (refusal.Moved i found)) y2 z g (m + 3 * length (new_in y.reads (locations es)) + 1) k
      (subst (λ (v : Actor). CanLeave v.place) (sym h) tt) (omega (arith, e, f, pos))
  has_loaded_nears u a x y y2 z g o d es m n k seat st none pos h near q = absurd h

  -- the outcome is taken, and its locations fit
  answers_nears : (u : World V) (a : ℕ) (before x : Seat V) (y : Actor) (z : Copy V) (g : ℕ → Bool) (sized o : CallWithOutcome V)
      (editions : ℕ → ℕ) → AreSmall u.blocks → At u a y z g → y.place ≡ machine.Open → y.held ≡ []
      → Nears a 12291 (answers u a before x sized o editions)
  answers_nears u a before x y z g sized o editions small k e none =
      let c = content u.words u.blocks in
      choose_near a 12291 (has_room (actor_of u a) (c.reads sized) (c.writes sized)) (loads u a x o (with_editions editions (c.reads o))) _
      (λ both.
      let few = call_few V u.words u.blocks o small k.base.stripes in
      let new = filter_shorter (λ l. is_none (lookup y.reads l)) (c.reads o) in
      let same = ap (λ ls. length (new_in y.reads ls)) (locations_of editions (c.reads o)) in
      let held = ap length none in
      loads_nears (with_editions editions (c.reads o)) u a x y z g o 12291 k e (omega (arith, held)) (omega (arith, few, new, same)))
      (λ _ q. absurd q)

  -- ---- gates
  tried_nears : (u : World V) (a : ℕ) (x : Seat V) (free : Bool) (i : ℕ) (got : List ℕ) (again : ℕ → Stage V) (next : Stage V) (tries m : ℕ)
      → (free ≡ true → left_of (seated u a (at_stage x next)) a < m)
      → (free ≡ false → Nears a m (gives_up u a (because x (refusal.GateBusy i)) got))
      → (free ≡ false → (j : ℕ) → j < tries → left_of (seated u a (at_stage x (again j))) a < m)
      → Nears a m (has_tried u a x free i got again next tries)
  tried_nears u a x free i got again next zero m won last more = choose_near a m free _ _ (λ e q. won e) last
  tried_nears u a x free i got again next (suc j) m won last more = choose_near a m free _ _ (λ e q. won e) (λ e q. more e j (omega arith))

  -- ---- locks, stores, releases
  takes_nears : (u : World V) (a : ℕ) (x : Seat V) (y : Actor) (got ks : List ℕ) (m : ℕ) → u.boosted.words.actors a ≡ y
      → 65 * length ks + length y.writes + length got + length y.held + 2 < m
      → left_of (seated u a (at_stage x (takes_gates got ks))) a < m
  takes_nears u a x y got [] m e h = seated_nears u a (at_stage x (takes_gates got [])) y m e (omega (arith, h))
  takes_nears u a x y got (i ∷ ks) m e h = seated_nears u a (at_stage x (takes_gates got (i ∷ ks))) y m e (omega (arith, h))

  has_locked_nears : (u : World V) (a : ℕ) (x : Seat V) (y y2 : Actor) (z : Copy V) (g : ℕ → Bool) (m : ℕ) (n : told.Notice)
      → At u a y2 z g → u.seats a ≡ x
      → x.stage ≡ Locking → AfterLock y y2 n → NearsLock m y2 n
      → Nears a m (has_locked u a x n)
  has_locked_nears u a x y y2 z g m told.Quiet k seat st h near q = same_nears u a x y2 Locking m k.own.actor seat st near
  has_locked_nears u a x y y2 z g m (told.LockedAt wv) k seat st h near q =
      let homes = λ (v : Actor). distinct
      (all_of (home_of u.words u.blocks) (filter (λ l. not (is_plain u.words u.blocks l)) (locations v.writes))) in
      let few = homes_few (home_of u.words u.blocks) (λ l. not (is_plain u.words u.blocks l)) y2.writes in
      let x2 : Seat V = record x { wv = wv } in
      subst (λ (v : Actor). left_of (seated u a (at_stage x2 (takes_gates [] (homes v)))) a < m) (sym k.own.actor)
      (takes_nears u a x2 y2 [] (homes y2) m k.own.actor (omega (arith, few, near)))
  has_locked_nears u a x y y2 z g m (told.Busy l found) k seat st h near q =
      cancels_near u a (because x (refusal.Busy l found)) y2 z g m k (subst (λ (v : Actor). CanLeave v.place) (sym h) tt)
      (omega (arith, near))
  has_locked_nears u a x y y2 z g m (told.Invalid l found) k seat st h near q =
      cancels_near u a (because x (refusal.Invalid l found)) y2 z g m k (subst (λ (v : Actor). CanLeave v.place) (sym h) tt)
      (omega (arith, near))
  has_locked_nears u a x y y2 z g m n k seat st h near q = absurd h

  goes_home_nears : (u : World V) (a : ℕ) (x : Seat V) (y : Actor) (z : Copy V) (g : ℕ → Bool) (ks : List ℕ) (m : ℕ) → At u a y z g
      → ((k : ℕ) → g k ≡ has ks k) → y.place ≡ machine.Store []
      → length ks + length y.held + 1 < m → Nears a m (goes_home u a x ks)
  goes_home_nears u a x y z g [] m k held e h q =
      seated_nears (acted u (asks a word.AskRelease ∷ [])) a (at_stage x Releasing) (goes y machine.Release) m
      (at_release u a y z g k held e).own.actor
      (omega (arith, h))
  goes_home_nears u a x y z g (i ∷ ks) m k held e h q = seated_nears u a (at_stage x (Homing (i ∷ ks))) y m k.own.actor (omega (arith, h))

  has_stored_nears : (u : World V) (a : ℕ) (x : Seat V) (y y2 : Actor) (z : Copy V) (g : ℕ → Bool) (ks : List ℕ) (m : ℕ) (n : told.Notice)
      → At u a y2 z g
      → ((k : ℕ) → g k ≡ has ks k) → AfterStore y y2 n
      → (told.Quiet ≡ n → steps_left y2 y2.place < m) → 0 < m → Nears a (m + length ks + length y2.held + 1) (has_stored u a x ks n)
  has_stored_nears u a x y y2 z g ks m told.Stored k held h near pos q = goes_home_nears u a x y2 z g ks
      (m + length ks + length y2.held + 1) k held h.0
      (omega (arith, pos)) q
  has_stored_nears u a x y y2 z g ks m told.Quiet k held h near pos q =
      let less = near refl in seated_nears u a (at_stage x (Storing ks)) y2 (m + length ks + length y2.held + 1) k.own.actor
      (omega (arith, less))
  has_stored_nears u a x y y2 z g ks m n k held h near pos q = absurd h

  has_released_nears : (u : World V) (a : ℕ) (x : Seat V) (s : Words) (y : Actor) (z : Copy V) (g : ℕ → Bool) (h : Entries) → IsSomeEntry h
      → At u a (learns s y (world.release y h)) z g → u.seats a ≡ x → x.stage ≡ Releasing
      → Nears a (length h) (has_released u a x (last_notice h told.Released))
  has_released_nears u a x s y z g [] some k seat st q = absurd some
  has_released_nears u a x s y z g (d ∷ []) some k seat st q = absurd q
  has_released_nears u a x s y z g (d ∷ (e ∷ es)) some k seat st q = same_nears u a x
      (learns s y (world.release y (d ∷ (e ∷ es)))) Releasing
      (length (d ∷ (e ∷ es))) k.own.actor seat st (omega arith)

  has_cancelled_nears : (u : World V) (a : ℕ) (x : Seat V) (s : Words) (y : Actor) (z : Copy V) (g : ℕ → Bool) (h : Entries) → IsSomeEntry h
      → At u a (learns s y (world.undo y h)) z g → u.seats a ≡ x
      → x.stage ≡ Cancelling → Nears a (length h + 1) (has_cancelled u a x (last_notice h told.Cancelled))
  has_cancelled_nears u a x s y z g [] some k seat st q = absurd some
  has_cancelled_nears u a x s y z g (d ∷ []) some k seat st q =
      let y2 = learns s y (world.undo y (d ∷ [])) in
      seated_nears (acted u (asks a word.AskAbort ∷ [])) a (at_stage x Leaving) (word.ask y2 machine.Undo word.AskAbort) 2
      (at_ask u a y2 z g machine.Undo word.AskAbort k refl tt).own.actor (omega arith)
  has_cancelled_nears u a x s y z g (d ∷ (e ∷ es)) some k seat st q = same_nears u a x (learns s y (world.undo y (d ∷ (e ∷ es)))) Cancelling
      (length (d ∷ (e ∷ es)) + 1) k.own.actor seat st (omega arith)

  -- ---- every step
  begin_answers : (u : World V) (a clock : ℕ) (x : Seat V) (b : Bool)
      → IsQuiet (has_begun u a x (cond b (told.Begun clock) (told.Exhausted clock))).1 → ⊥
  begin_answers u a clock x true q = q
  begin_answers u a clock x false q = q

  step_nears : (w : World V) (a : ℕ) (x : Seat V) (st : Stage V) → AreSmall w.blocks → Linked w → w.seats a ≡ x → x.stage ≡ st
      → ((k : ℕ) → mine w.boosted a k ≡ has (gates_of st) k)
      → StageOk w.words w.blocks x (w.boosted.words.actors a) (w.boosted.shadows a) st (w.boosted.words.actors a).place
      → Nears a (measure.left_at st (w.boosted.words.actors a)) (step_at w a x st)
  step_nears w a x Idle small k seat st held h = λ q. absurd q
  step_nears w a x Open small k seat st held h = λ q. absurd q
  step_nears w a x Beginning small k seat st held h =
      let y = w.boosted.words.actors a in
      subst (λ n. Nears a 1 (has_begun (acted w (moves a ∷ [])) a x n))
      (sym (tells w a y (w.boosted.shadows a) (mine w.boosted a) machine.Begin (at_of w a k) h))
      (λ q. absurd (begin_answers (acted w (moves a ∷ [])) a w.boosted.words.clock x (nat_lt w.boosted.words.clock machine.clock_limit) q))
  step_nears w a x (Reading l) small k seat st held h =
      let y = w.boosted.words.actors a in
      let s = w.boosted.words in
      let z = w.boosted.shadows a in
      let g = mine w.boosted a in
      let at = at_of w a k in
      let near = read_nears s y l y.place h.0 in
      subst (λ n. Nears a (steps_left y y.place + 1) (has_read (acted w (moves a ∷ [])) a x l n)) (sym (tells w a y z g y.place at refl))
      (has_read_nears (acted w (moves a ∷ [])) a x y (learns s y (plan y y.place)) z g l (steps_left y y.place) (notice s y y.place)
      (at_move w a y z g y.place at refl (reading_quiet l y.place h.0)) seat st
      (reading_held s y l y.place h.0 (k.base.inv.machine.actors a).place) near.0 (read_after s y l y.place h.0) near.1)
  step_nears w a x (Trying asked tries) small k seat st held h =
      let y = w.boosted.words.actors a in
      let z = w.boosted.shadows a in
      let g = mine w.boosted a in
      let u = acted w (TakeGate a asked.collection ∷ []) in
      let t = gate_tried w a asked.collection y z g (at_of w a k) (ap is_committing h.0) in
      let none = ap length (subst (PlaceOk w.boosted.words y) h.0 (k.base.inv.machine.actors a).place) in
      tried_nears u a x (is_none (w.boosted.gates asked.collection)) asked.collection [] (λ n. Trying asked n) (Copying asked) tries
      (tries + 12292)
      (λ won. seated_nears u a (at_stage x (Copying asked)) y (tries + 12292) (t.0 won).own.actor (omega arith))
      (λ lost q. cancels_near u a (because x (refusal.GateBusy asked.collection)) y z g (tries + 12292) (t.1 lost)
      (subst CanLeave (sym h.0) tt)
      (omega (arith, none)))
      (λ lost j lt. seated_nears u a (at_stage x (Trying asked j)) y (tries + 12292) (t.1 lost).own.actor (omega (arith, lt)))
  step_nears w a x (Copying asked) small k seat st held h =
      let y = w.boosted.words.actors a in
      let z = w.boosted.shadows a in
      let g = mine w.boosted a in
      let i = asked.collection in
      let which = covers_at w.words w.blocks asked in
      let u = acted w (PutGate a i which ∷ []) in
      answers_nears u a x (with_piece x i (piece_at w.blocks asked)) y
      (if is_open y.place then copied (content w.words w.blocks) w.boosted y.calls z i which else z) (without_gate g i)
      (sized_by u a asked (outcome_at u a asked)) (outcome_at u a asked) u.boosted.editions small
      (gate_put w a i which y z g (at_of w a k) (held i ∙ first_has i []) (ap is_committing h.0)) h.0
      (subst (PlaceOk w.boosted.words y) h.0 (k.base.inv.machine.actors a).place)
  step_nears w a x (Loading o []) small k seat st held h = λ q. absurd h
  step_nears w a x (Loading o (d ∷ es)) small k seat st held h =
      let y = w.boosted.words.actors a in
      let s = w.boosted.words in
      let z = w.boosted.shadows a in
      let g = mine w.boosted a in
      let at = at_of w a k in
      let near = read_nears s y d.0 y.place h.0 in
      subst (λ n. Nears a (steps_left y y.place + 3 * length (new_in y.reads (locations es)) + 1)
      (has_loaded (acted w (moves a ∷ [])) a x o d es n))
      (sym (tells w a y z g y.place at refl))
      (has_loaded_nears (acted w (moves a ∷ [])) a x y (learns s y (plan y y.place)) z g o d es (steps_left y y.place) (notice s y y.place)
      (at_move w a y z g y.place at refl (reading_quiet d.0 y.place h.0)) seat st
      (reading_held s y d.0 y.place h.0 (k.base.inv.machine.actors a).place) near.0 (read_after s y d.0 y.place h.0) near.1)
  step_nears w a x Locking small k seat st held h =
      let y = w.boosted.words.actors a in
      let s = w.boosted.words in
      let z = w.boosted.shadows a in
      let g = mine w.boosted a in
      let at = at_of w a k in
      subst (λ n. Nears a (lock_left y y.place) (has_locked (acted w (moves a ∷ [])) a x n)) (sym (tells w a y z g y.place at refl))
      (has_locked_nears (acted w (moves a ∷ [])) a x y (learns s y (plan y y.place)) z g (lock_left y y.place) (notice s y y.place)
      (at_move w a y z g y.place at refl (locking_quiet y.place h.0)) seat st (lock_after s y y.place h.0) (lock_nears s y y.place h.0))
  step_nears w a x (Gating got [] tries) small k seat st held h = λ q. absurd h
  step_nears w a x (Gating got (i ∷ ks) tries) small k seat st held h =
      let y = w.boosted.words.actors a in
      let z = w.boosted.shadows a in
      let g = mine w.boosted a in
      let u = acted w (TakeGate a i ∷ []) in
      let t = gate_tried w a i y z g (at_of w a k) (ap is_committing h.0) in
      let m = tries + 64 * length ks + length y.writes + length got + length ks + length y.held + 4 in
      let more = length-push got i in
      tried_nears u a x (is_none (w.boosted.gates i)) i got (λ n. Gating got (i ∷ ks) n) (takes_gates (got ++ i ∷ []) ks) tries m
      (λ won. takes_nears u a x y (got ++ i ∷ []) ks m (t.0 won).own.actor (omega (arith, more)))
      (λ lost. gives_up_nears u a (because x (refusal.GateBusy i)) y z g got m (t.1 lost) (subst CanLeave (sym h.0) tt) (omega arith))
      (λ lost j lt. seated_nears u a (at_stage x (Gating got (i ∷ ks) j)) y m (t.1 lost).own.actor (omega (arith, lt)))
  step_nears w a x (Ready ks) small k seat st held h =
      let y = w.boosted.words.actors a in
      let f = first_stored w a x y (w.boosted.shadows a) (mine w.boosted a) ks (at_of w a k) held h.0 h.1 in
      let y1 = goes y machine.First in
      let ready = acted w (asks a word.AskStore ∷ []) in
      let y2 = learns ready.boosted.words y1 (world.first_store y1 (f.entry ∷ f.others)) in
      let near = first_nears ready.boosted.words y1 f.entry f.others in
      let same = ap length f.writes in
      let held2 = ap length near.1 in
      let less = near.0 in
      subst (λ n. Nears a (length y.writes + length ks + length y.held + 2)
      (has_stored (recorded (acted ready (moves a ∷ [])) a x true x.wv) a x ks n))
      (sym f.told)
      (λ q. (
      let r = has_stored_nears (recorded (acted ready (moves a ∷ [])) a x true x.wv) a x y1 y2 (w.boosted.shadows a) (mine w.boosted a) ks
      (length y.writes + 1) (told.last_notice (f.entry ∷ f.others) told.Stored)
      f.at held (first_after ready.boosted.words y1 f.entry f.others) (λ e. omega (arith, less, same)) (omega arith) q in
      omega (arith, r, held2)))
  step_nears w a x (Storing ks) small k seat st held h =
      let y = w.boosted.words.actors a in
      let s = w.boosted.words in
      let z = w.boosted.shadows a in
      let g = mine w.boosted a in
      let at = at_of w a k in
      let near = store_nears s y y.place h.0 in
      let held2 = ap length near.2 in
      subst (λ n. Nears a (steps_left y y.place + length ks + length y.held + 1) (has_stored (acted w (moves a ∷ [])) a x ks n))
      (sym (tells w a y z g y.place at refl))
      (λ q. (
      let r = has_stored_nears (acted w (moves a ∷ [])) a x y (learns s y (plan y y.place)) z g ks (steps_left y y.place)
      (notice s y y.place)
      (at_move w a y z g y.place at refl (storing_quiet y.place h.0)) held (store_after s y y.place h.0) near.1 near.0 q in
      omega (arith, r, held2)))
  step_nears w a x (Homing []) small k seat st held h = λ q. absurd h
  step_nears w a x (Homing (i ∷ ks)) small k seat st held h =
      let y = w.boosted.words.actors a in
      let z = w.boosted.shadows a in
      let g = mine w.boosted a in
      goes_home_nears (acted w (GoHome a i ∷ [])) a x y z (without_gate g i) ks (length (i ∷ ks) + length y.held + 1)
      (at_home w a y z g i (at_of w a k) (held i ∙ first_has i ks) h.0) (gates_left g i ks held h.2.0) h.0 (omega arith)
  step_nears w a x Releasing small k seat st held h =
      let y = w.boosted.words.actors a in
      let s = w.boosted.words in
      let z = w.boosted.shadows a in
      let g = mine w.boosted a in
      let at = at_of w a k in
      subst (λ n. Nears a (length y.held) (has_released (acted w (moves a ∷ [])) a x n)) (sym (tells w a y z g machine.Release at h.0))
      (has_released_nears (acted w (moves a ∷ [])) a x s y z g y.held (subst (PlaceOk s y) h.0 (k.base.inv.machine.actors a).place).some
      (at_move w a y z g machine.Release at h.0 tt) seat st)
  step_nears w a x Closing small k seat st held h = λ q. absurd q
  step_nears w a x (Returning []) small k seat st held h = λ q. absurd h
  step_nears w a x (Returning (i ∷ ks)) small k seat st held h =
      let y = w.boosted.words.actors a in
      let z = w.boosted.shadows a in
      let g = mine w.boosted a in
      let none = λ (l : ℕ). false in
      gives_up_nears (acted w (PutGate a i none ∷ [])) a x y
      (if is_open y.place then copied (content w.words w.blocks) w.boosted y.calls z i none else z) (without_gate g i) ks
      (length (i ∷ ks) + length y.held + 2)
      (gate_put w a i none y z g (at_of w a k) (held i ∙ first_has i ks) (leaving_rests y.place h.0)) h.0 (omega arith)
  step_nears w a x Cancelling small k seat st held h =
      let y = w.boosted.words.actors a in
      let s = w.boosted.words in
      let z = w.boosted.shadows a in
      let g = mine w.boosted a in
      let at = at_of w a k in
      subst (λ n. Nears a (length y.held + 1) (has_cancelled (acted w (moves a ∷ [])) a x n)) (sym (tells w a y z g machine.Undo at h.0))
      (has_cancelled_nears (acted w (moves a ∷ [])) a x s y z g y.held h.1 (at_move w a y z g machine.Undo at h.0 tt) seat st)
  step_nears w a x Leaving small k seat st held h = λ q. absurd (why_answers V a x.cause q)

  -- ---- a request as it is asked, with sets of at most 4,096 locations
  abbrev IsFew : World V → ℕ → After V → Type 0
  IsFew w a r = IsQuiet r.1 → left_of r.0 a < 1000000

  few_seated : (u : World V) (a : ℕ) (x : Seat V) (y : Actor) → u.boosted.words.actors a ≡ y → measure.left_at x.stage y < 1000000
      → left_of (seated u a x) a < 1000000
  few_seated u a x y e h = seated_nears u a x y 1000000 e h

  reads_few : (w : World V) (a : ℕ) (x : Seat V) (l : ℕ) (n : told.Notice) → (w.boosted.words.actors a).place ≡ machine.Open → Linked w
      → IsFew w a (reads w a x l n)
  reads_few w a x l n e k q =
      let y = w.boosted.words.actors a in
      let at = at_ask w a y (w.boosted.shadows a) (mine w.boosted a) machine.Open (word.AskRead l) (at_of w a k) e tt in
      let b = read_at_most y l (lookup y.writes l) (lookup y.reads l) in
      by_notice n q (few_seated (acted w (asks a (word.AskRead l) ∷ [])) a (at_stage x (Reading l))
      (word.ask y machine.Open (word.AskRead l)) at.own.actor
      (omega (arith, b)))
    where
      by_notice : (n : told.Notice) → IsQuiet (reads w a x l n).1 → left_of
          (seated (acted w (asks a (word.AskRead l) ∷ [])) a (at_stage x (Reading l))) a < 1000000 → left_of (reads w a x l n).0 a < 1000000
      by_notice (told.Number v) q h = absurd q
      by_notice n q h = h

  allowed_few : (w : World V) (a : ℕ) (x : Seat V) (known room : Bool) (next : After V) → IsFew w a next
      → IsFew w a (if_allowed w a x known room next)
  allowed_few w a x known room next h =
      choose_near a 1000000 known _ _
      (λ _. choose_near a 1000000 (nat_lt (length x.calls) CALL_LIMIT && room) next _ (λ _. h) (λ _ q. absurd q))
      (λ _ q. absurd q)

  calls_few : (w : World V) (a : ℕ) (x : Seat V) (asked : CollectionCall V) → AreSmall w.blocks
      → (w.boosted.words.actors a).place ≡ machine.Open
      → Linked w → IsFew w a (calls_on w a x asked)
  calls_few w a x asked small e k =
      let y = w.boosted.words.actors a in
      let none = subst (PlaceOk w.boosted.words y) e (k.base.inv.machine.actors a).place in
      choose_near a 1000000 (x.copied asked.collection (piece_at w.blocks asked)) _ _
      (λ _ q. let r = answers_nears w a x x y (w.boosted.shadows a) (mine w.boosted a) (outcome_at w a asked) (outcome_at w a asked)
      (w.boosted.shadows a).editions small (at_of w a k) e none q in omega (arith, r))
      (λ _ q. few_seated w a (at_stage x (Trying asked more_tries)) y refl (omega arith))

  op_few : (w : World V) (a : ℕ) (x : Seat V) (t : ℕ) (op : Op V) → AreSmall w.blocks → (w.boosted.words.actors a).place ≡ machine.Open
      → Linked w → IsFew w a (ask_op w a x t op)
  op_few w a x t Read small e k = allowed_few w a x _ _ _ (reads_few w a x t _ e k)
  op_few w a x t (Write v) small e k = allowed_few w a x _ _ _ (λ q. absurd q)
  op_few w a x t op small e k = allowed_few w a x _ _ _ (calls_few w a x (record { collection = t; op = op }) small e k)

  commits_few : (w : World V) (a : ℕ) (x : Seat V) (es : Entries) → (w.boosted.words.actors a).place ≡ machine.Open
      → (w.boosted.words.actors a).writes ≡ es
      → length es ≤ 4096
      → length (w.boosted.words.actors a).reads ≤ 4096 → Linked w → IsFew w a (commits w a x es)
  commits_few w a x [] e is few few2 k q =
      let y = w.boosted.words.actors a in
      few_seated (acted w (asks a word.AskClose ∷ [])) a (at_stage x Closing) (word.ask y machine.Open word.AskClose)
      (at_ask w a y (w.boosted.shadows a) (mine w.boosted a) machine.Open word.AskClose (at_of w a k) e tt).own.actor (omega arith)
  commits_few w a x (d ∷ es) e is few few2 k q =
      let y = w.boosted.words.actors a in
      let y2 = goes y (machine.Lock (locations (d ∷ es))) in
      let none = ap length (subst (PlaceOk w.boosted.words y) e (k.base.inv.machine.actors a).place) in
      let all = length-locations (d ∷ es) in
      let same = ap length is in
      few_seated (acted w (asks a word.AskLock ∷ [])) a (at_stage x Locking) y2
      ((at_ask w a y (w.boosted.shadows a) (mine w.boosted a) machine.Open word.AskLock (at_of w a k) e tt).own.actor ∙ ap (word.lock y) is)
      (omega (arith, none, all, same, few, few2))

  ask_few : (w : World V) (a : ℕ) (x : Seat V) (st : Stage V) (q : Request V) → AreSmall w.blocks → Linked w → StageOk w.words w.blocks x
      (w.boosted.words.actors a) (w.boosted.shadows a) st (w.boosted.words.actors a).place
      → length (w.boosted.words.actors a).reads ≤ 4096 → length (w.boosted.words.actors a).writes ≤ 4096 → IsFew w a (ask_at w a x st q)
  ask_few w a x Idle request.Begin small k h few few2 = λ q.
      few_seated (acted w (asks a word.AskBegin ∷ [])) a (at_stage x Beginning)
      (word.ask (w.boosted.words.actors a) machine.Idle word.AskBegin)
      (at_ask w a (w.boosted.words.actors a) (w.boosted.shadows a) (mine w.boosted a) machine.Idle word.AskBegin
      (at_of w a k) h tt).own.actor (omega arith)
  ask_few w a x Idle request.BeginRead small k h few few2 = λ q.
      few_seated (acted w (asks a word.AskBeginRead ∷ [])) a (at_stage x Beginning)
      (word.ask (w.boosted.words.actors a) machine.Idle word.AskBeginRead)
      (at_ask w a (w.boosted.words.actors a) (w.boosted.shadows a) (mine w.boosted a) machine.Idle word.AskBeginRead
      (at_of w a k) h tt).own.actor (omega arith)
  ask_few w a x Idle r small k h few few2 = λ q. absurd q
  ask_few w a x Open request.Begin small k h few few2 = λ q. absurd q
  ask_few w a x Open request.BeginRead small k h few few2 = λ q. absurd q
  ask_few w a x Open (request.Call call) small k h few few2 = op_few w a x call.target call.op small h.0 k
  ask_few w a x Open request.Commit small k h few few2 = commits_few w a x (actor_of w a).writes h.0 refl few2 few k
  ask_few w a x Open request.Abort small k h few few2 = λ q. (
      let y = w.boosted.words.actors a in
      let none = ap length (subst (PlaceOk w.boosted.words y) h.0 (k.base.inv.machine.actors a).place) in
      cancels_near w a (record x { cause = None }) y (w.boosted.shadows a) (mine w.boosted a) 1000000 (at_of w a k)
      (subst CanLeave (sym h.0) tt) (omega (arith, none)))
  ask_few w a x st r small k h few few2 = λ q. absurd q

  -- ---- worlds
  module _ (blocks : List Block) (clock : ℕ) (values : List ℕ) (held : List (Held V)) (events : List (Event V))
      (stripes : HaveStripes blocks) (few_stripes : AreSmall blocks) where
    reached : Linked (run (opened blocks clock values held) events)
    reached = run_linked events (opened blocks clock values held) (opened_linked blocks clock values held stripes)

    small : AreSmall (run (opened blocks clock values held) events).blocks
    small = subst AreSmall (sym (run_by events (opened blocks clock values held)).blocks) few_stripes

    pub world_nears : (a : ℕ) → let w = run (opened blocks clock values held) events in Nears a (left_of w a) (happens w (Step a))
    world_nears a =
        let w = run (opened blocks clock values held) events in
        let k = reached in step_nears w a (w.seats a) (w.seats a).stage small k refl refl (k.seats a).gates (k.seats a).stage

    pub world_few : (a : ℕ) (q : Request V) → let w = run (opened blocks clock values held) events in length (actor_of w a).reads ≤ 4096
        → length (actor_of w a).writes ≤ 4096
        → Nears a 1000000 (happens w (Ask a q))
    world_few a q few few2 =
        let w = run (opened blocks clock values held) events in
        let k = reached in ask_few w a (w.seats a) (w.seats a).stage q small k (k.seats a).stage few few2

  -- what others do leaves the measure
  pub others_leave : (w : World V) (e : Event V) (a : ℕ) → (a ≡ whose e → ⊥) → left_of (happens w e).0 a ≡ left_of w a
  others_leave w e a ne =
      let r = happens_by w e in
      ap (λ (x : Seat V). measure.left_at x.stage ((happens w e).0.boosted.words.actors a)) (r.seats a ne)
      ∙ ap (measure.left_at (w.seats a).stage) (r.actors a ne)
