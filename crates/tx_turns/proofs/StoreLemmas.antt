-- The value stores of a commit after its first, in straight code.
--
-- A store changes of the actor nothing but the index at which it stands, whatever it found. So a store after which others are left leads
-- from `Store i` to `Store (i + 1)` (`store_led`), and that the actor stands there is all of the loop's invariant. The last one is
-- handed to the actor (`store_heard`).
use Rattle.std.proofs.Common.{◌≡◌, ℕ, ◌+◌, ◌<◌, true, false, true≢false, List, Option, None, Result}
use Rattle.std.proofs.Common.{Ok, length, drop, get_or, refl, sym, ap, ◌∙◌, subst, arith}
use Rattle.std.specs.List.{All}
use Rattle.tx_sets.specs.Entries.{IsRising, locations}
use Rattle.tx_machine.proofs.Sets.{put-same}
use Rattle.tx_machine.specs.Actor as machine
use Rattle.tx_machine.specs.Actor.{goes}
use Rattle.tx_machine.specs.Cells.{ValueCell}
use Rattle.tx_machine.specs.Notices as notice
use Rattle.tx_machine.specs.Notices.{when_none_left}
use Rattle.replay_log.specs.declared.base.Base.{Base}
use Rattle.replay_log.specs.Seats as worlds
use Rattle.replay_log.specs.Seats.{World}
use Rattle.replay_log.specs.WorldProgress.{AreSmall}
use Rattle.step_core.specs.Answers.{result_of}
use Rattle.step_core.specs.Shown as words
use Rattle.step_core.specs.Sound.{Fits}
use Rattle.step_core.specs.declared.actor.Actor.{Actor}
use Rattle.step_core.specs.declared.actor.Place.TheVariants.{Store}
use Rattle.step_core.specs.declared.answer.WordAnswer.{WordAnswer}
use Rattle.step_core.specs.declared.answer.WordRefusal.{WordRefusal}
use Rattle.step_core.proofs.Lists.{get_or_same}
use Rattle.actor_parts.specs.Dispatch.{AreSteps, is_loading, next_of, notice_told}
use Rattle.actor_parts.specs.declared.next.Next.TheVariants as next
use Rattle.tx_actor.proofs.CopiesByStageLemmas.{copies_same}
use Rattle.tx_actor.specs.Dispatch.{IsToldWord}
use Rattle.tx_actor.specs.CopiesByStage.{KeepsCopies}
use Rattle.tx_actor.specs.ActorBounds.{IsRunning}
use Rattle.tx_actor.specs.Running.{at, seat_at, stage_of}
use Rattle.tx_actor.specs.declared.actor.Stage as own
use Rattle.tx_actor.specs.declared.actor.Stage.TheVariants as stage
use Rattle.tx_actor.specs.declared.actor.ActorNotice.{ActorNotice}
use Rattle.tx_actor.specs.declared.actor.ActorNotice.TheVariants as told
use Rattle.tx_actor.specs.declared.actor.TxActor.{TxActor}
use Rattle.tx_actor.proofs.StepLemmas.{running_moved}
use Rattle.shared_table.specs.declared.seat.Seat.{Seat}
use Rattle.shared_table.specs.declared.table.TxTable.{TxTable}
use Rattle.shared_table.specs.Seated.{Stores, StepsBlind, acts, actor, blocks_in, opening_of, view}
use Rattle.tx_turns.proofs.NextStepLemmas.{learns_store, next_is, store_is}
use Rattle.tx_turns.specs.Touches.{StepsWords}
use Rattle.tx_turns.specs.declared.due.NextStep.TheVariants as due
use Rattle.tx_turns.proofs.TurnLemmas.{word_is_next}
use Rattle.tx_turns.specs.Ties.{Ties, laid_in}
use Rattle.tx_turns.specs.Laws.{WordsKeep}
use Rattle.tx_turns.specs.Own.{HasOwn}
use Rattle.tx_turns.proofs.StraightLemmas.{led_last}
use Rattle.tx_turns.specs.Straight.{HasLed, at_place, is_storing}

-- its bounds at one place are those at another
pub store_fits : (x : Actor) (i j : ℕ) (n : ℕ) → Fits n (record x { place = Store i }) → Fits n (record x { place = Store j })
store_fits x i j n h = record {
  reads = h.reads;
  writes = h.writes;
  reads_rise = h.reads_rise;
  writes_rise = h.writes_rise;
  reads_few = h.reads_few;
  writes_few = h.writes_few;
  held = h.held;
  wv = h.wv;
  place = tt;
}

-- after a value others are left
stored_left : (x : Actor) (i : ℕ) → i + 1 < length x.writes.entries
    → Ok None ≡ result_of (when_none_left (drop (i + 1) (locations x.writes.entries)) notice.Stored)
stored_left x i low =
    let e = get_or x.writes.entries (i + 1) (0, 0) in
    sym (ap (λ (ls : List ℕ). result_of (when_none_left ls notice.Stored)) (next_is x.writes.entries (i + 1) e low
    (get_or_same x.writes.entries (i + 1) (0, 0) e low)))

module _ {V : Type 0} where
  pub quiet_storing : (s : own.Stage V) → is_storing s ≡ true → is_loading (stage_of s) ≡ false
  quiet_storing (stage.Storing homes) e = refl
  quiet_storing s e = absurd (true≢false (sym e))

  pub next_storing : (s : own.Stage V) → is_storing s ≡ true → next_of (stage_of s) ≡ next.Word
  next_storing (stage.Storing homes) e = refl
  next_storing s e = absurd (true≢false (sym e))

  pub open_storing : (s : own.Stage V) → is_storing s ≡ true → s ≡ stage.Closing → ⊥
  open_storing s e f = true≢false (sym e ∙ ap is_storing f)

  -- nothing comes of a store that answered nothing
  storing_at : (q : TxActor V) (s : own.Stage V) → is_storing s ≡ true → IsToldWord (at q s) (at q s) told.Quiet notice.Quiet
  storing_at q (stage.Storing homes) e = λ a w may runs.
      let r = at q (stage.Storing homes) in
      let x = seat_at (w.seats a) r in
      ((subst (λ (z : worlds.Seat V). z ≡ seat_at z r) (sym (put-same w.seats a x)) refl, runs.1, tt), refl)
  storing_at q s e = absurd (true≢false (sym e))

  -- the store is next
  pub store_due : (t : TxTable V) (s : Seat V) (r : TxActor V) (i : ℕ) (e : ℕ × ℕ) → is_storing r.stage ≡ true
      → i < length r.words.writes.entries → e ≡ get_or r.words.writes.entries i e → Ties t s (at_place r (Store i))
      → Stores (actor s) (acts (opening_of t) s) (ValueCell e.0) e.1
  store_due t s r i e storing low is ties =
      let x = record r.words { place = Store i } in
      let h = word_is_next t s (at_place r (Store i)) (next_storing r.stage storing) ties (due.StoreValue e.0 e.1)
      (_, store_is x i e ties.running.fits.writes_rise low is) in
      (h.spot, h.becomes)

  pub store_steps : (o : World V) (s u : Seat V) (x y : Actor) (i : ℕ) (e : ℕ × ℕ) (a : Option WordAnswer) → StepsBlind o s u
      → IsRising x.writes.entries → i < length x.writes.entries → e ≡ get_or x.writes.entries i e
      → let b = words.actor_of (record x { place = Store i }) in
      words.actor_of y ≡ goes b (machine.Store (drop (i + 1) (locations x.writes.entries)))
      → Ok a ≡ result_of (when_none_left (drop (i + 1) (locations x.writes.entries)) notice.Stored)
      → StepsWords o s (record x { place = Store i }) u y (Ok a)
  store_steps o s u x y i e a step rise low is own says =
      record {
        due = due.StoreValue e.0 e.1;
        number = e.1;
        deed = (_, store_is (record x { place = Store i }) i e rise low is);
        touches = record { clock = (view s).clock; found = step.0; takes = step.1; finds = tt; rises = omega arith; clocks = tt };
        learns = learns_store (record x { place = Store i }) y i e.1 a refl low own says;
      }

  -- after it others are left
  pub store_led : AreSteps V → WordsKeep V → (t : TxTable V) (s u : Seat V) (r : TxActor V) (i : ℕ) (e : ℕ × ℕ) (bs : List (Base V))
      → is_storing r.stage ≡ true → i + 1 < length r.words.writes.entries → e ≡ get_or r.words.writes.entries i e
      → AreSmall (blocks_in t) → Ties t s (at_place r (Store i)) → HasOwn t s (at_place r (Store i)) bs → StepsBlind (opening_of t) s u
      → HasLed t s u (at_place r (Store (i + 1))) told.Quiet bs
  store_led steps keep t s u r i e bs storing left is small ties has step =
      let y : Actor = record r.words { place = Store (i + 1) } in
      let q = at_place r (Store (i + 1)) in
      let quiet = quiet_storing r.stage storing in
      led_last steps keep t s u (at_place r (Store i)) q y (Ok None) told.Quiet bs quiet (next_storing r.stage storing)
      (open_storing r.stage storing) small ties has
      (store_steps (opening_of t) s u r.words y i e None step ties.running.fits.writes_rise (omega (arith, left)) is refl
      (stored_left r.words i left))
      (storing_at q r.stage storing)
      (running_moved (laid_in t) (at_place r (Store i)) y (store_fits r.words i (i + 1)) quiet ties.running)
      (copies_same (at_place r (Store i)) (at_place r (Store i)) quiet refl)

  -- and the last, which is handed to the actor
  pub store_heard : AreSteps V → WordsKeep V → (t : TxTable V) (s u : Seat V) (r q : TxActor V) (y : Actor) (a : Option WordAnswer)
      (n : ActorNotice V) (i : ℕ) (e : ℕ × ℕ) (bs : List (Base V)) → is_storing r.stage ≡ true → i < length r.words.writes.entries
      → e ≡ get_or r.words.writes.entries i e → AreSmall (blocks_in t) → Ties t s (at_place r (Store i))
      → HasOwn t s (at_place r (Store i)) bs → StepsBlind (opening_of t) s u
      → let b = words.actor_of (record r.words { place = Store i }) in
      words.actor_of y ≡ goes b (machine.Store (drop (i + 1) (locations r.words.writes.entries)))
      → Ok a ≡ result_of (when_none_left (drop (i + 1) (locations r.words.writes.entries)) notice.Stored)
      → ((j : ℕ) → Fits j (record r.words { place = Store i }) → Fits j y)
      → IsToldWord (record r { words = y }) q n (notice_told (Ok a))
      → (IsRunning (laid_in t) (record r { words = y }) → IsRunning (laid_in t) q) → KeepsCopies r q → HasLed t s u q n bs
  store_heard steps keep t s u r q y a n i e bs storing low is small ties has step own says fits heard running leaves =
      let quiet = quiet_storing r.stage storing in
      led_last steps keep t s u (at_place r (Store i)) q y (Ok a) n bs quiet (next_storing r.stage storing)
      (open_storing r.stage storing) small ties has
      (store_steps (opening_of t) s u r.words y i e a step ties.running.fits.writes_rise low is own says) heard
      (running (running_moved (laid_in t) (at_place r (Store i)) y fits quiet ties.running)) leaves
