-- The locks of a commit and its number, taken in straight code.
--
-- A lock takes two steps: the load of its word, which changes of the actor nothing but its place (`seek_led`), and the exchange, after
-- which it holds one lock more (`take_led`). So from one lock to the next all of the actor is as it was but for the locks that it holds.
-- Handed to the actor are a word that is locked (`locking_heard`), one that has changed since its load (`take_lost`), and, after the last
-- lock, the number (`stamp_heard`).
use Rattle.std.proofs.Common.{◌≡◌, ℕ, ◌+◌, ◌*◌, ◌<◌, ◌≤◌, ◌^◌, ◌++◌, true, false, true≢false, List, [], ◌∷◌}
use Rattle.std.proofs.Common.{Option, None, Result, Ok, Err, length, drop, get_or, refl, sym, ap, ◌∙◌, subst, arith}
use Rattle.std.specs.VecDeque.{deque_capacity, deque_len}
use Rattle.std.specs.declared.alloc.Global.{Global}
use Rattle.std.specs.declared.collections.VecDeque.{VecDeque}
use Rattle.tx_sets.specs.Entries.{locations}
use Rattle.vlock_word.specs.LockWord.{unbits}
use Rattle.vlock_word.specs.declared.lock_word.LockWord.TheVariants.{Free}
use Rattle.tx_machine.specs.Actor as machine
use Rattle.tx_machine.specs.Actor.{goes, seen_to_lock, stamped_at, taken, to_check}
use Rattle.tx_machine.specs.Cells.{LockCell}
use Rattle.tx_machine.specs.Notices as notice
use Rattle.tx_machine.specs.Notices.{lock_notice, when_none_left}
use Rattle.replay_log.specs.declared.base.Base.{Base}
use Rattle.replay_log.specs.Seats.{World}
use Rattle.replay_log.specs.WorldProgress.{AreSmall}
use Rattle.step_core.proofs.Keeps.{lock_keeps, take_keeps}
use Rattle.step_core.specs.Answers.{result_of}
use Rattle.step_core.specs.Shown as words
use Rattle.step_core.specs.Sound.{Fits}
use Rattle.step_core.specs.declared.actor.Actor.{Actor}
use Rattle.step_core.specs.declared.actor.Place.TheVariants.{Broken, Lock, Take}
use Rattle.step_core.specs.declared.answer.WordAnswer.{WordAnswer}
use Rattle.step_core.specs.declared.answer.WordRefusal.{WordRefusal}
use Rattle.step_core.specs.declared.answer.WordRefusal.TheVariants as refusal
use Rattle.actor_parts.specs.Dispatch.{AreSteps, is_loading, next_of, notice_told}
use Rattle.actor_parts.specs.declared.next.Next.TheVariants as next
use Rattle.tx_actor.specs.Dispatch.{HasRoom, IsToldWord, waits_at}
use Rattle.tx_actor.specs.CopiesByStage.{KeepsCopies}
use Rattle.tx_actor.specs.ActorBounds.{IsRunning}
use Rattle.tx_actor.specs.Running.{stage_of}
use Rattle.tx_actor.specs.declared.actor.Stage as own
use Rattle.tx_actor.specs.declared.actor.Stage.TheVariants as stage
use Rattle.tx_actor.specs.declared.actor.ActorNotice.{ActorNotice}
use Rattle.tx_actor.specs.declared.actor.ActorNotice.TheVariants as told
use Rattle.tx_actor.specs.declared.actor.TxActor.{TxActor}
use Rattle.tx_actor.proofs.StepLemmas.{running_moved}
use Rattle.shared_table.specs.declared.seat.Seat.{Seat}
use Rattle.shared_table.specs.declared.table.TxTable.{TxTable}
use Rattle.shared_table.specs.Seated.{Adds, Exchanges, Loads, Stepped, Takes, acts, actor, blocks_in, opening_of, out, view}
use Rattle.shared_table.specs.Shown.{highest_clock}
use Rattle.tx_turns.proofs.NextStepLemmas.{learns_lock, learns_lost, learns_stamp, learns_taken, lock_is, stamp_is}
use Rattle.tx_turns.specs.Touches.{StepsWords}
use Rattle.tx_turns.specs.declared.due.NextStep.TheVariants as due
use Rattle.tx_turns.proofs.TurnLemmas.{word_is_next}
use Rattle.tx_turns.specs.Ties.{Ties, laid_in}
use Rattle.tx_turns.specs.Laws.{WordsKeep}
use Rattle.tx_turns.specs.Own.{HasOwn}
use Rattle.tx_turns.proofs.StraightLemmas.{led_last, led_on}
use Rattle.tx_turns.specs.Straight.{HasLed, at_place, is_locking}

module _ {V : Type 0} where
  pub quiet_locking : (s : own.Stage V) → is_locking s ≡ true → is_loading (stage_of s) ≡ false
  quiet_locking (stage.Locking homes) e = refl
  quiet_locking s e = absurd (true≢false (sym e))

  pub waits_locking : (s : own.Stage V) → is_locking s ≡ true → waits_at s ≡ true
  waits_locking (stage.Locking homes) e = refl
  waits_locking s e = absurd (true≢false (sym e))

  pub next_locking : (s : own.Stage V) → is_locking s ≡ true → next_of (stage_of s) ≡ next.Word
  next_locking (stage.Locking homes) e = refl
  next_locking s e = absurd (true≢false (sym e))

  pub open_locking : (s : own.Stage V) → is_locking s ≡ true → s ≡ stage.Closing → ⊥
  open_locking s e f = true≢false (sym e ∙ ap is_locking f)

  pub room_locking : (p : TxActor V) (s : own.Stage V) → is_locking s ≡ true → HasRoom p s
  room_locking p (stage.Locking homes) e = tt
  room_locking p s e = absurd (true≢false (sym e))

  -- any step of it that is handed to the actor
  pub locking_heard : AreSteps V → WordsKeep V → (t : TxTable V) (s u : Seat V) (r q : TxActor V) (y : Actor)
      (m : Result (Option WordAnswer) WordRefusal) (n : ActorNotice V) (bs : List (Base V)) → is_locking r.stage ≡ true
      → AreSmall (blocks_in t)
      → Ties t s r → HasOwn t s r bs → StepsWords (opening_of t) s r.words u y m → ((j : ℕ) → Fits j r.words → Fits j y)
      → IsToldWord (record r { words = y }) q n (notice_told m)
      → (IsRunning (laid_in t) (record r { words = y }) → IsRunning (laid_in t) q) → KeepsCopies r q → HasLed t s u q n bs
  locking_heard steps keep t s u r q y m n bs locking small ties has step fits heard running leaves =
      let quiet = quiet_locking r.stage locking in
      led_last steps keep t s u r q y m n bs quiet (next_locking r.stage locking) (open_locking r.stage locking) small ties has step heard
      (running (running_moved (laid_in t) r y fits quiet ties.running)) leaves

  -- and any that answered nothing
  pub locking_led : AreSteps V → WordsKeep V → (t : TxTable V) (s u : Seat V) (r : TxActor V) (y : Actor) (bs : List (Base V))
      → is_locking r.stage ≡ true → AreSmall (blocks_in t) → Ties t s r → HasOwn t s r bs
      → StepsWords (opening_of t) s r.words u y (Ok None) → ((j : ℕ) → Fits j r.words → Fits j y)
      → HasLed t s u (record r { words = y }) told.Quiet bs
  locking_led steps keep t s u r y bs locking small ties has step fits =
      led_on steps keep t s u r y bs (quiet_locking r.stage locking) (waits_locking r.stage locking) (next_locking r.stage locking)
      (open_locking r.stage locking) small ties has step fits

  -- ---- the load of a lock word
  pub seek_due : (t : TxTable V) (s : Seat V) (r : TxActor V) (i : ℕ) (e : ℕ × ℕ) → is_locking r.stage ≡ true
      → i < length r.words.writes.entries → e ≡ get_or r.words.writes.entries i e → Ties t s (at_place r (Lock i))
      → Loads (actor s) (acts (opening_of t) s) (LockCell e.0)
  seek_due t s r i e locking low is ties =
      let x = record r.words { place = Lock i } in
      let h = word_is_next t s (at_place r (Lock i)) (next_locking r.stage locking) ties (due.LoadLock e.0)
      (seen_to_lock (words.actor_of x) e.0 (drop (i + 1) (locations x.writes.entries)), lock_is x i e low is) in
      (h.spot, h.becomes)

  pub seek_steps : (o : World V) (s u : Seat V) (x y : Actor) (i : ℕ) (e : ℕ × ℕ) (found : ℕ) (m : Result (Option WordAnswer) WordRefusal)
      → Stepped o s found u → i < length x.writes.entries → e ≡ get_or x.writes.entries i e
      → let a = words.actor_of (record x { place = Lock i }) in
      words.actor_of y ≡ seen_to_lock a e.0 (drop (i + 1) (locations x.writes.entries)) (unbits found)
      → m ≡ result_of (lock_notice e.0 (unbits found)) → StepsWords o s (record x { place = Lock i }) u y m
  seek_steps o s u x y i e found m step low is learnt says =
      let z = record x { place = Lock i } in
      record {
        due = due.LoadLock e.0;
        number = found;
        deed = (seen_to_lock (words.actor_of z) e.0 (drop (i + 1) (locations x.writes.entries)), lock_is z i e low is);
        touches = record { clock = (view s).clock; found = found; takes = step; finds = refl; rises = omega arith; clocks = tt };
        learns = learns_lock z y i found e m refl low is learnt says;
      }

  -- it was free
  pub seek_led : AreSteps V → WordsKeep V → (t : TxTable V) (s u : Seat V) (r : TxActor V) (i : ℕ) (e : ℕ × ℕ) (k found : ℕ)
      (bs : List (Base V)) → is_locking r.stage ≡ true → i < length r.words.writes.entries → e ≡ get_or r.words.writes.entries i e
      → AreSmall (blocks_in t) → Ties t s (at_place r (Lock i)) → HasOwn t s (at_place r (Lock i)) bs → Stepped (opening_of t) s found u
      → unbits found ≡ Free k → k < 2 ^ 63 → HasLed t s u (at_place r (Take e.0 k (i + 1))) told.Quiet bs
  seek_led steps keep t s u r i e k found bs locking low is small ties has step free less =
      let x : Actor = record r.words { place = Lock i } in
      let y : Actor = record r.words { place = Take e.0 k (i + 1) } in
      locking_led steps keep t s u (at_place r (Lock i)) y bs locking small ties has
      (seek_steps (opening_of t) s u r.words y i e found (Ok None) step low is
      (sym (ap (seen_to_lock (words.actor_of x) e.0 (drop (i + 1) (locations x.writes.entries))) free))
      (ap result_of (sym (ap (lock_notice e.0) free))))
      (lock_keeps x e.0 k i refl low
      (λ n f. subst (λ (d : ℕ × ℕ). d.0 < n) (sym is) (f.writes i e low)) less).fits

  -- ---- the exchange
  pub take_due : (t : TxTable V) (s : Seat V) (r : TxActor V) (l k i : ℕ) → is_locking r.stage ≡ true → Ties t s (at_place r (Take l k i))
      → Exchanges (actor s) (acts (opening_of t) s) (LockCell l) (2 * k) (2 * k + 1)
  take_due t s r l k i locking ties =
      let x = record r.words { place = Take l k i } in
      let h = word_is_next t s (at_place r (Take l k i)) (next_locking r.stage locking) ties (due.Lock l (2 * k))
      (k, _, _, refl, refl, ties.running.fits.place.1) in
      (h.spot, h.becomes)

  -- it was as it was found, and is held now
  pub take_led : AreSteps V → WordsKeep V → (t : TxTable V) (s u : Seat V) (r : TxActor V) (h : VecDeque (ℕ × ℕ) Global) (l k i : ℕ)
      (bs : List (Base V)) → is_locking r.stage ≡ true → AreSmall (blocks_in t) → Ties t s (at_place r (Take l k i))
      → HasOwn t s (at_place r (Take l k i)) bs → Stepped (opening_of t) s (2 * k) u → h.items ≡ r.words.held.items ++ (l, k) ∷ []
      → deque_len h ≡ deque_len r.words.held + 1 → deque_capacity h ≡ deque_capacity r.words.held
      → HasLed t s u (record r { words = record r.words { held = h; place = Lock i } }) told.Quiet bs
  take_led steps keep t s u r h l k i bs locking small ties has step items len room =
      let x : Actor = record r.words { place = Take l k i } in
      let y : Actor = record r.words { held = h; place = Lock i } in
      let learnt : words.actor_of y ≡ taken (words.actor_of x) l k (drop i (locations x.writes.entries)) =
      ap (λ (es : List (ℕ × ℕ)). record (words.actor_of y) { held = es }) items in
      locking_led steps keep t s u (at_place r (Take l k i)) y bs locking small ties has
      (record {
        due = due.Lock l (2 * k);
        number = 2 * k;
        deed = (k, _, _, refl, refl, ties.running.fits.place.1);
        touches = record { clock = (view s).clock; found = 2 * k; takes = step; finds = refl; rises = omega arith; clocks = tt };
        learns = learns_taken x y l k i refl learnt;
      })
      (take_keeps x y l k i refl refl refl items len room refl refl refl).fits

  -- or it has changed
  pub take_lost : AreSteps V → WordsKeep V → (t : TxTable V) (s u : Seat V) (r q : TxActor V) (n : ActorNotice V) (l k i found : ℕ)
      (bs : List (Base V)) → is_locking r.stage ≡ true → AreSmall (blocks_in t) → Ties t s (at_place r (Take l k i))
      → HasOwn t s (at_place r (Take l k i)) bs → (found ≡ 2 * k → ⊥) → Stepped (opening_of t) s found u
      → IsToldWord (at_place r Broken) q n (notice_told (Err (refusal.Busy l found)))
      → (IsRunning (laid_in t) (at_place r Broken) → IsRunning (laid_in t) q) → KeepsCopies (at_place r Broken) q → HasLed t s u q n bs
  take_lost steps keep t s u r q n l k i found bs locking small ties has isnt step heard running leaves =
      let x : Actor = record r.words { place = Take l k i } in
      let y : Actor = record r.words { place = Broken } in
      locking_heard steps keep t s u (at_place r (Take l k i)) q y (Err (refusal.Busy l found)) n bs locking small ties has
      (record {
        due = due.Lock l (2 * k);
        number = found;
        deed = (k, _, _, refl, refl, ties.running.fits.place.1);
        touches = record { clock = (view s).clock; found = found; takes = step; finds = refl; rises = omega arith; clocks = tt };
        learns = learns_lost x y l k i found refl isnt refl;
      })
      (λ j f. record {
        reads = f.reads;
        writes = f.writes;
        reads_rise = f.reads_rise;
        writes_rise = f.writes_rise;
        reads_few = f.reads_few;
        writes_few = f.writes_few;
        held = f.held;
        wv = f.wv;
        place = tt;
      })
      heard running leaves

  -- ---- the number
  pub stamp_due : (t : TxTable V) (s : Seat V) (r : TxActor V) (i : ℕ) → is_locking r.stage ≡ true
      → length r.words.writes.entries ≤ i → Ties t s (at_place r (Lock i)) → Adds (actor s) (acts (opening_of t) s)
  stamp_due t s r i locking high ties =
      let x = record r.words { place = Lock i } in
      let h = word_is_next t s (at_place r (Lock i)) (next_locking r.stage locking) ties due.AddToClock (_, stamp_is x i high) in
      (h.spot, h.becomes)

  pub stamp_heard : AreSteps V → WordsKeep V → (t : TxTable V) (s u : Seat V) (r q : TxActor V) (y : Actor)
      (m : Result (Option WordAnswer) WordRefusal) (n : ActorNotice V) (i clock : ℕ) (bs : List (Base V)) → is_locking r.stage ≡ true
      → length r.words.writes.entries ≤ i → AreSmall (blocks_in t) → Ties t s (at_place r (Lock i)) → HasOwn t s (at_place r (Lock i)) bs
      → (view s).clock ≤ clock → clock ≤ highest_clock → Takes (opening_of t) s (clock + 1) clock None (out s) u
      → let a = words.actor_of (record r.words { place = Lock i }) in
      words.actor_of y ≡ stamped_at a (clock + 1)
      → m ≡ result_of (when_none_left (to_check a (clock + 1)) (notice.LockedAt (clock + 1)))
      → ((j : ℕ) → Fits j (record r.words { place = Lock i }) → Fits j y) → IsToldWord (record r { words = y }) q n (notice_told m)
      → (IsRunning (laid_in t) (record r { words = y }) → IsRunning (laid_in t) q) → KeepsCopies r q → HasLed t s u q n bs
  stamp_heard steps keep t s u r q y m n i clock bs locking high small ties has rises most step learnt says fits heard running leaves =
      let x : Actor = record r.words { place = Lock i } in
      locking_heard steps keep t s u (at_place r (Lock i)) q y m n bs locking small ties has
      (record {
        due = due.AddToClock;
        number = clock;
        deed = (_, stamp_is x i high);
        touches = record {
          clock = clock + 1;
          found = clock;
          takes = step;
          finds = refl;
          rises = omega (arith, rises);
          clocks = (refl, most);
        };
        learns = learns_stamp x y i clock m refl high learnt says;
      })
      fits heard running leaves
