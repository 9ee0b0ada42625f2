-- The locks of a commit, given back in straight code.
--
-- A store that gives a lock back takes the front of the locks that are held away, and while others are held it changes nothing else of the
-- actor (`release_led`): so the loop ends as they get fewer. The last one is handed to the actor, and the commit is over (`release_heard`).
use Rattle.std.proofs.Common.{◌≡◌, ℕ, ◌*◌, ◌<◌, true, false, List, Option, Some, None, Result}
use Rattle.std.proofs.Common.{Ok, length, drop, get_or, refl, sym, ap, ◌∙◌, subst, arith}
use Rattle.std.specs.VecDeque.{deque_len}
use Rattle.tx_machine.specs.Actor.{after_release, freed}
use Rattle.tx_machine.specs.Cells.{LockCell}
use Rattle.tx_machine.specs.Notices as notice
use Rattle.tx_machine.specs.Notices.{when_none_left}
use Rattle.replay_log.specs.declared.base.Base.{Base}
use Rattle.replay_log.specs.Seats as worlds
use Rattle.replay_log.specs.Seats.{World, After}
use Rattle.replay_log.specs.Worlds.{has_released}
use Rattle.replay_log.specs.WorldProgress.{AreSmall}
use Rattle.step_core.proofs.Lists.{more_left, one_left}
use Rattle.step_core.specs.Answers.{result_of}
use Rattle.step_core.specs.Shown as words
use Rattle.step_core.specs.Sound.{Fits}
use Rattle.step_core.specs.declared.actor.Actor.{Actor}
use Rattle.step_core.specs.declared.actor.Place.TheVariants.{Release}
use Rattle.step_core.specs.declared.answer.WordAnswer.{WordAnswer}
use Rattle.step_core.specs.declared.answer.WordRefusal.{WordRefusal}
use Rattle.actor_parts.specs.Dispatch.{AreSteps, after_word, is_loading, next_of, notice_told}
use Rattle.actor_parts.specs.declared.next.Next.TheVariants as next
use Rattle.tx_actor.proofs.CopiesByStageLemmas.{copies_idle}
use Rattle.tx_actor.specs.Dispatch.{IsToldWord, waits_at}
use Rattle.tx_actor.specs.CopiesByStage.{KeepsCopies}
use Rattle.tx_actor.specs.ActorBounds.{IsRunning}
use Rattle.tx_actor.specs.Running.{Reseats, Runs, at, notice_of, seat_at, seat_of, stage_of}
use Rattle.tx_actor.specs.declared.actor.Stage as own
use Rattle.tx_actor.specs.declared.actor.Stage.TheVariants as stage
use Rattle.tx_actor.specs.declared.actor.ActorNotice.{ActorNotice}
use Rattle.tx_actor.specs.declared.actor.ActorNotice.TheVariants as told
use Rattle.tx_actor.specs.declared.actor.TxActor.{TxActor}
use Rattle.tx_actor.proofs.StepLemmas.{running_moved}
use Rattle.shared_table.specs.declared.seat.Seat.{Seat}
use Rattle.shared_table.specs.declared.table.TxTable.{TxTable}
use Rattle.shared_table.specs.Seated.{Stores, StepsBlind, acts, actor, blocks_in, opening_of, view}
use Rattle.tx_turns.proofs.NextStepLemmas.{at_place, learns_release, release_is}
use Rattle.tx_turns.specs.Touches.{StepsWords}
use Rattle.tx_turns.specs.declared.due.NextStep.TheVariants as due
use Rattle.tx_turns.proofs.TurnLemmas.{word_is_next}
use Rattle.tx_turns.specs.Ties.{Ties, laid_in}
use Rattle.tx_turns.specs.Laws.{WordsKeep}
use Rattle.tx_turns.specs.Own.{HasOwn}
use Rattle.tx_turns.proofs.StraightLemmas.{led_last, led_on}
use Rattle.tx_turns.specs.Straight.{HasLed}

-- what is answered of a lock after which others are held, or none
pub told_more : (x : Actor) → 1 < length x.held.items → Ok None ≡ result_of (when_none_left (drop 1 x.held.items) notice.Released)
told_more x more = ap result_of (sym (more_left x.held.items notice.Released (omega (arith, more)) (λ e. omega (arith, more, e))))

pub told_last : (x : Actor) (a : Option WordAnswer) → length x.held.items ≡ 1
    → Ok a ≡ result_of (when_none_left (drop 1 x.held.items) notice.Released) → Ok a ≡ result_of notice.Released
told_last x a one says = says ∙ ap result_of (one_left x.held.items notice.Released one)

module _ {V : Type 0} where
  -- the store is next
  pub release_due : (t : TxTable V) (s : Seat V) (r : TxActor V) (e : ℕ × ℕ) → r.stage ≡ stage.Releasing → r.words.place ≡ Release
      → 0 < length r.words.held.items → e ≡ get_or r.words.held.items 0 e → Ties t s r
      → Stores (actor s) (acts (opening_of t) s) (LockCell e.0) (2 * r.words.wv)
  release_due t s r e releasing place some is ties =
      let h = word_is_next t s r (ap (λ (k : own.Stage V). next_of (stage_of k)) releasing) ties (due.StoreLock e.0 (2 * r.words.wv))
      (r.words.wv, _, at_place r.words Release place ∙ release_is r.words e some is, refl) in
      (h.spot, h.becomes)

  release_steps : (o : World V) (s u : Seat V) (x y : Actor) (e : ℕ × ℕ) (a : Option WordAnswer) → StepsBlind o s u
      → x.place ≡ Release → 0 < length x.held.items → e ≡ get_or x.held.items 0 e
      → words.actor_of y ≡ freed (words.actor_of x) (drop 1 x.held.items) (after_release (drop 1 x.held.items))
      → Ok a ≡ result_of (when_none_left (drop 1 x.held.items) notice.Released) → StepsWords o s x u y (Ok a)
  release_steps o s u x y e a step place some is frees says =
      record {
        due = due.StoreLock e.0 (2 * x.wv);
        number = 2 * x.wv;
        deed = (x.wv, _, at_place x Release place ∙ release_is x e some is, refl);
        touches = record { clock = (view s).clock; found = step.0; takes = step.1; finds = tt; rises = omega arith; clocks = tt };
        learns = learns_release x y (2 * x.wv) a place some frees says;
      }

  -- after it others are held
  pub release_led : AreSteps V → WordsKeep V → (t : TxTable V) (s u : Seat V) (r : TxActor V) (y : Actor) (e : ℕ × ℕ) (bs : List (Base V))
      → r.stage ≡ stage.Releasing → r.words.place ≡ Release → 1 < length r.words.held.items → e ≡ get_or r.words.held.items 0 e
      → AreSmall (blocks_in t) → Ties t s r → HasOwn t s r bs → StepsBlind (opening_of t) s u
      → words.actor_of y ≡ freed (words.actor_of r.words) (drop 1 r.words.held.items) (after_release (drop 1 r.words.held.items))
      → ((n : ℕ) → Fits n r.words → Fits n y) → HasLed t s u (record r { words = y }) told.Quiet bs
  release_led steps keep t s u r y e bs releasing place more is small ties has step frees fits =
      led_on steps keep t s u r y bs (ap (λ (k : own.Stage V). is_loading (stage_of k)) releasing)
      (ap (λ (k : own.Stage V). waits_at k) releasing) (ap (λ (k : own.Stage V). next_of (stage_of k)) releasing)
      (λ f. (let z : stage.Releasing ≡ stage.Closing = sym releasing ∙ f in let b : ⊥ = cc in b)) small ties has
      (release_steps (opening_of t) s u r.words y e None step place (omega (arith, more)) is frees (told_more r.words more)) fits

  -- the last: the transaction has committed
  told_at : (p q : TxActor V) (n : ActorNotice V) (s : own.Stage V) → s ≡ stage.Releasing
      → Reseats p q n (λ a w. has_released w a (seat_of p) notice.Released) → IsToldWord (at p s) q n notice.Released
  told_at p q n s e does =
      subst (λ (k : own.Stage V). IsToldWord (at p k) q n notice.Released) (sym e) (λ a w may runs. does a w runs.1)

  told_by : (p q : TxActor V) (n : ActorNotice V) (a : Option WordAnswer) → Ok a ≡ result_of notice.Released
      → IsToldWord p q n notice.Released → IsToldWord p q n (notice_told (Ok a))
  told_by p q n a e h =
      subst (λ (m : Result (Option WordAnswer) WordRefusal). IsToldWord p q n (notice_told m)) (sym e) h

  running_idle : (t : TxTable V) (p : TxActor V) → IsRunning (laid_in t) p → IsRunning (laid_in t) (at p stage.Idle)
  running_idle t p h = record { fits = h.fits; room = tt; names = tt; call = tt }

  pub release_heard : AreSteps V → WordsKeep V → (t : TxTable V) (s u : Seat V) (r q : TxActor V) (y : Actor) (a : Option WordAnswer)
      (n : ActorNotice V) (e : ℕ × ℕ) (bs : List (Base V)) → r.stage ≡ stage.Releasing → r.words.place ≡ Release
      → length r.words.held.items ≡ 1 → e ≡ get_or r.words.held.items 0 e → AreSmall (blocks_in t) → Ties t s r → HasOwn t s r bs
      → StepsBlind (opening_of t) s u
      → words.actor_of y ≡ freed (words.actor_of r.words) (drop 1 r.words.held.items) (after_release (drop 1 r.words.held.items))
      → Ok a ≡ result_of (when_none_left (drop 1 r.words.held.items) notice.Released) → ((j : ℕ) → Fits j r.words → Fits j y)
      → let p : TxActor V = record r { words = y } in
      Reseats p q n (λ a w. has_released w a (seat_of p) notice.Released)
      → (IsRunning (laid_in t) (at p stage.Idle) → IsRunning (laid_in t) q) → KeepsCopies (at p stage.Idle) q → HasLed t s u q n bs
  release_heard steps keep t s u r q y a n e bs releasing place one is small ties has step frees says fits does running leaves =
      let p : TxActor V = record r { words = y } in
      let quiet = ap (λ (k : own.Stage V). is_loading (stage_of k)) releasing in
      led_last steps keep t s u r q y (Ok a) n bs quiet (ap (λ (k : own.Stage V). next_of (stage_of k)) releasing)
      (λ f. (let z : stage.Releasing ≡ stage.Closing = sym releasing ∙ f in let b : ⊥ = cc in b)) small ties has
      (release_steps (opening_of t) s u r.words y e a step place (omega (arith, one)) is frees says)
      (told_by p q n a (told_last r.words a one says) (told_at p q n r.stage releasing does))
      (running (running_idle t p (running_moved (laid_in t) r y fits quiet ties.running)))
      (copies_idle r p q leaves)
